-- `tree::flat::read_tree`: the loop keeps `At`, what is left of the parse.
use Rattle.std.proofs.Common.{rules, Ok, Err, ◌≡◌}
use Rattle.tree.proofs.Turn.{start, stopped, placed, trailing, whole}
use Rattle.tree_record.specs.Record.{record_at}
use Rattle.tree.specs.Tree.{limited}
use Rattle.tree.proofs.flat.read_tree.Goals as goal

pub loop-depth-init : goal.loop-depth-init
loop-depth-init c = start _ _ _ c.requires.in_bounds.0 c.requires.in_bounds.1 c.requires.kinds_value c.requires.counts_value

pub loop-depth-preserved : goal.loop-depth-preserved
loop-depth-preserved c =
    let node : limited (record_at c.args.bytes.now c.loop-depth.at) c.loop-depth.node c.loop-depth.depth ≡ Ok c.in_ok-found.found
    = search rules in
    placed c.loop-depth.invariant c.loop-depth-test.true c.if-top-eq0.false _ node

pub returns-in_err-found : goal.returns-in_err-found
returns-in_err-found c =
    let cause : limited (record_at c.args.bytes.now c.loop-depth.at) c.loop-depth.node c.loop-depth.depth ≡ Err c.in_err-found.field-0.0.cause
    = search rules in
    let a = stopped c.loop-depth.invariant c.loop-depth-test.true c.if-top-eq0.false _ cause in
    search rules

pub returns-then-at-bytes : goal.returns-then-at-bytes
returns-then-at-bytes c =
    let a = trailing c.loop-depth.invariant c.loop-depth-test.false c.if-at-bytes.true in
    search rules

pub returns : goal.returns
returns c =
    let a = whole c.loop-depth.invariant c.loop-depth-test.false c.if-at-bytes.false in
    search rules

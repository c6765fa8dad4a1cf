-- `tree::flat::flatten` meets its contract: what `read_tree` answers and leaves, where there is room for it, and zeros elsewhere.
use Rattle.std.proofs.Common.{rules, ◌≡◌, length, replicate, arith, true, false, is_err}
use Rattle.tree.proofs.Answer.{flat_short, flat_refused, flat_accepted}
use Rattle.tree.proofs.flat.flatten.Goals as goal

pub returns-then-kinds-lt-LIMIT : goal.returns-then-kinds-lt-LIMIT
returns-then-kinds-lt-LIMIT c =
    let kinds : c.fill.new.self ≡ replicate (length c.args.kinds.now) 0 = search rules in
    let counts : c.fill-2.new.self ≡ replicate (length c.args.counts.now) 0 = search rules in
    let left = flat_short _ _ c.args.bytes.now _ _ c.then-kinds-lt-LIMIT.either kinds counts in
    search rules

pub returns-then-is_err : goal.returns-then-is_err
returns-then-is_err c =
    let kinds : c.fill-then-is_err.new.self ≡ replicate (length c.args.kinds.now) 0 = search rules in
    let counts : c.fill-then-is_err-2.new.self ≡ replicate (length c.args.counts.now) 0 = search rules in
    let err : is_err c.read_tree-nodes.result ≡ true = search rules in
    let left = flat_refused _ _ c.args.bytes.now _ _ _ (omega arith) (omega arith) c.read_tree-nodes.ensures.value err kinds counts in
    search rules

pub returns-else-is_err : goal.returns-else-is_err
returns-else-is_err c =
    let err : is_err c.read_tree-nodes.result ≡ false = search rules in
    let left =
    flat_accepted (length c.args.kinds.now) (length c.args.counts.now) c.args.bytes.now _ _ _ (omega arith) (omega arith) c.read_tree-nodes.ensures.value err
    c.read_tree-nodes.ensures.written (omega arith) (omega arith) in
    search rules

-- `tick_report::write_marks`: to write the rest of the marks from here on is to write all of them from the start.
use Rattle.std.proofs.Common.{◌≡◌, map, drop, get_or}
use Rattle.std.proofs.lemmas.List.Edits.{sets}
use Rattle.tick_report.proofs.write_marks.Given as goal

abbrev pub invariant-loop-n : goal.invariant-loop-n
invariant-loop-n l =
    sets l.out l.n (map (λ v. get_or l.marks v l.absent) (drop l.n l.nodes)) ≡ sets l.initial.out 0 (map (λ v. get_or l.marks v l.absent) l.nodes)

-- Where a whole record lies.
use Rattle.std.proofs.Common.{◌≡◌, ℕ, ◌≤◌, List, length, arith}
use Rattle.std.proofs.lemmas.Grind.{common_steps}
use Rattle.list_text.specs.declared.outer.Outer.{Outer}
use Rattle.list_text.specs.declared.outer.Outer.TheVariants.{Whole, Cut, Bad}
use Rattle.list_text.specs.Outer.{outer_at}

pub record Inside (bytes : List ℕ) (start end : ℕ) : Type 0 where
  pub starts : start ≡ 4
  pub long : 4 ≤ end
  pub there : end ≤ length bytes

abbrev pub Lies : List ℕ → Outer → Type 0
Lies bytes (Whole kind start end) = Inside bytes start end
Lies bytes Cut = Unit {0}
Lies bytes Bad = Unit {0}

pub lies : (bytes : List ℕ) → Lies bytes (outer_at bytes 0)
unfolding outer_at
lies bytes = grind (arith, common_steps)

pub whole_lies : (bytes : List ℕ) (kind start end : ℕ) → outer_at bytes 0 ≡ Whole kind start end → Inside bytes start end
unfolding outer_at
whole_lies bytes kind start end e = grind (arith, common_steps)

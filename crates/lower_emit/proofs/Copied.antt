-- A form's terms, copied from the work pools past those written, one by one.
use Rattle.std.proofs.Common.{◌≡◌, ℕ, suc, ◌+◌, ◌-◌, ◌<◌, List, ◌∷◌, set, get_or, arith}
use lib.Ieee.{Float, nan}
use mathlib.Core.Path.{ap, ◌∙◌}
use Rattle.lists.proofs.Entries.{each_length}
use Rattle.wire.specs.declared.Form.{Form}
use Rattle.wire.specs.declared.Term.{Term}
use Rattle.wire.specs.Terms.{part, term_at, terms_of}
use Rattle.wire.proofs.Parts.{part_step}
use Rattle.arena_terms.specs.Steps.{Put}
use Rattle.arena_terms.proofs.Put.{Going, going_end}

module _ (fw : List ℕ) (fc : List Float) (f : Form) (next k : ℕ) {ws₀ : List ℕ} {cs₀ : List Float} {all : List Term} {ws : List ℕ} {cs : List Float} where
  pub copied_on : k < f.len → Going ws cs (next + k) (part fw fc (f.first + k) (f.len - k)) ws₀ cs₀ next all
      → Going (set ws (next + k) (get_or fw (f.first + k) 0)) (set cs (next + k) (get_or fc (f.first + k) nan)) (next + (k + 1))
      (part fw fc (f.first + (k + 1)) (f.len - (k + 1))) ws₀ cs₀ next all
  copied_on h g =
      let i = f.first + k in
      let e = i + (f.len - k) in
      let n : e - i ≡ f.len - k = omega arith in
      let m : e - (i + 1) ≡ f.len - (k + 1) = omega arith in
      let one : part fw fc i (f.len - k) ≡ term_at fw fc i ∷ part fw fc (i + 1) (f.len - (k + 1)) =
      rw (← n, ← m) (part_step fw fc i e (omega arith)) in
      let q : next + (k + 1) ≡ suc (next + k) = omega arith in
      let p : f.first + (k + 1) ≡ i + 1 = omega arith in
      let t = rw one at g in
      rw (q, p) (record { wires = t.wires; coefs = t.coefs; used = omega (arith, t.used) })

  -- none is left
  pub copied_end : f.len - k ≡ 0 → Going ws cs (next + k) (part fw fc (f.first + k) (f.len - k)) ws₀ cs₀ next all → Put ws₀ cs₀ next all ws cs (next + k)
  unfolding part
  copied_end h g = going_end (rw h at g)

pub copied_next : (fw : List ℕ) (fc : List Float) (f : Form) {ws : List ℕ} {cs : List Float} {next : ℕ} {ws' : List ℕ} {cs' : List Float} {k : ℕ}
    → Put ws cs next (terms_of fw fc f) ws' cs' k → k ≡ next + f.len
unfolding part
copied_next fw fc f {next = next} p = p.used ∙ ap (λ (n : ℕ). next + n) (each_length (term_at fw fc) f.first f.len)

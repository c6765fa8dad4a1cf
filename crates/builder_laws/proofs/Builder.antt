-- builder.rs followed: each operation gives the construction's form, over floats, and appends exactly its op; it leaves what stands; and it needs so
-- much room.
use Prim.Native.Nat.{ℕ}
use native.Mathlib.Omega.{arith}
use mathlib.Core.Path.{◌≡◌, sym, ap}
use mathlib.Core.List.{List, [], ◌∷◌}
use mathlib.Core.Bool.{Bool, true, false, cond, not, ◌&&◌, ◌||◌}
use borrow.Author.Tests.{ne_eqb}
use lib.Dec.{eqb}
use lib.ListN.{length}
use lib.Ieee.{Float, binary32, sub, eq, le}
use Rattle.exact.specs.Whole.{zero32, one32, minus_one32}
use Rattle.wire.specs.declared.Form.{Form}
use Rattle.wire.specs.declared.Term.{Term}
use Rattle.wire.specs.Terms.{Affine, constant_form}
use Rattle.arena_terms.specs.Sums as S
use Rattle.arena.specs.Arena.{offset_form}
use Rattle.arena_room.specs.declared.Room.{Room}
use Rattle.arena_laws.specs.Holds.{Is, Holds}
use Rattle.arena_laws.proofs.Holds.{is_length, holds_constant, holds_offset}
use Rattle.walk.specs.Kind.{bit}
use Rattle.construct.specs.Forms.{Open}
use Rattle.construct.specs.Builder as B
use Rattle.construct.specs.Builder.{Op, Out}
use Rattle.construct_floats.specs.Floats.{number, empty, known_at, known, floats}
use Rattle.construct_floats.proofs.Literals.{number_zero, number_one, difference_one, difference_minus_one}
use Rattle.builder_table.specs.Work.{Standing, Mem, Ended, kept}
use Rattle.builder_table.specs.Whole.{Whole}
use Rattle.builder_table.specs.Steps.{one_minus_in, push_in}
use Rattle.builder_laws.specs.Table.{Ops, Stands, Gives, Grown}
use Rattle.builder_laws.proofs.Table.{grown_none, grown_then, stands_still, whole_still, gives_kept, plus_grown, plus_gives, scaled_grown, scaled_gives, one_minus_grown, one_minus_gives, push_grown, push_gives}
use Rattle.builder.specs.Bits.{bit_form, is_true_form, is_false_form, minus_in, relu_in, is_zero_in, step_within, at_least_in, and_in, either_in, or_in}

-- ---- constants, and what is known of a form

pub stands_one : {ws : List ℕ} {cs : List Float} {room : Room} → Holds ws cs room (constant_form one32) (S.constant (number 1))
stands_one = rw number_one (holds_constant one32)

pub stands_zero : {ws : List ℕ} {cs : List Float} {room : Room} → Holds ws cs room (constant_form zero32) (S.constant (number 0))
stands_zero = rw number_zero (holds_constant zero32)

pub stands_bit : {ws : List ℕ} {cs : List Float} {room : Room} (t : Bool) → Holds ws cs room (bit_form t) (S.constant (number (bit t)))
stands_bit true = stands_one
stands_bit false = stands_zero

-- `1 - x` as arena makes it and as the construction has it
not_same : (x : Affine) → S.one_minus x ≡ B.not' floats x
unfolding S.one_minus B.not'
not_same x = ap (λ (d : Float). S.offset d (S.scaled minus_one32 x)) (sym difference_one)

pub not_gives : (m : Mem) (b : Standing) (f : Form) {x : Affine} {os : List (Op Affine)} → Ops m b os → Stands m b f x → Gives (one_minus_in m b f) (record { form = B.not' floats x; ops = os })
not_gives m b f {x} q h = rw (← not_same x) (one_minus_gives m b f q h)

empty_is : (ts : List Term) (n : ℕ) → n ≡ length ts → eqb n 0 ≡ empty ts
unfolding empty
empty_is [] n e = rw e
empty_is (t ∷ ts) n e = ne_eqb n 0 (λ z. omega (arith, e, z))

known_is : {ws : List ℕ} {cs : List Float} {used : ℕ} {f : Form} {x : Affine} → Is ws cs used f x → known x ≡ known_at (eqb f.len 0) (eq f.bias zero32)
unfolding known
known_is {f = f} {x = x} h = λ i. known_at (sym (empty_is x.terms f.len (is_length h)) i) (eq (sym h.bias i) zero32)

-- two forms that have terms make an op
and_open : (n : ℕ) (x y : Affine) (os : List (Op Affine)) → known x ≡ Open → known y ≡ Open → B.and floats n x y os ≡ B.push floats n x y os
unfolding B.and B.and_at
and_open n x y os d e = rw (d, e)

-- it is enough to show it where all had room
gives_if : {e : Ended} {o : Out Affine} → (e.builder.room.ok ≡ true → Gives e o) → Gives e o
gives_if g = record { form = record { holds = λ t. (g t).form.holds t }; ops = record { holds = λ t. (g t).ops.holds t } }

-- ---- the operations

module _ (m : Mem) (b : Standing) where
  module _ (f g : Form) where
    pub minus_grown : Grown m b (minus_in m b f g).mem (minus_in m b f g).builder
    unfolding minus_in
    minus_grown = grown_then (scaled_grown m b g minus_one32) (plus_grown _ _ f _)

    pub minus_gives : {x y : Affine} {os : List (Op Affine)} → Ops m b os → Stands m b f x → Stands m b g y → Gives (minus_in m b f g) (record { form = B.minus floats x y; ops = os })
    unfolding minus_in B.minus
    minus_gives q hx hy =
        let a = scaled_gives m b g minus_one32 q hy in
        plus_gives _ _ f _ a.ops (stands_still (scaled_grown m b g minus_one32) hx) a.form

  module _ (f : Form) where
    pub relu_grown : Grown m b (relu_in m b f).mem (relu_in m b f).builder
    unfolding relu_in
    relu_grown = push_grown m b (constant_form one32) f

    pub relu_gives : {x : Affine} {os : List (Op Affine)} → Whole m.nums m.biases → Ops m b os → Stands m b f x → Gives (relu_in m b f) (B.relu floats b.cells x os)
    unfolding relu_in B.relu
    relu_gives w q h = push_gives m b (constant_form one32) f w q stands_one h

module _ (m : Mem) (b : Standing) (f : Form) where
  -- `is_zero` of a count that has terms
  abbrev open_zero : Ended
  open_zero = let n = one_minus_in m b f in relu_in n.mem n.builder n.form

  pub zero_grown : Grown m b (is_zero_in m b f).mem (is_zero_in m b f).builder
  unfolding is_zero_in
  zero_grown = go (eqb f.len 0)
    where
      go : (t : Bool) → Grown m b (cond t (kept m b (bit_form (eq f.bias zero32))) open_zero).mem (cond t (kept m b (bit_form (eq f.bias zero32))) open_zero).builder
      go true = grown_none
      go false = grown_then (one_minus_grown m b f) (relu_grown _ _ _)

  pub zero_gives : {x : Affine} {os : List (Op Affine)} → Whole m.nums m.biases → Ops m b os → Stands m b f x → Gives (is_zero_in m b f) (B.is_zero floats b.cells x os)
  unfolding is_zero_in B.is_zero B.is_zero_at B.not' known_at one_minus_in
  zero_gives {x} {os} w q h =
      gives_if (λ t. rw (known_is (h.holds (zero_grown.arena.was t))) (go (eqb f.len 0) (eq f.bias zero32)))
    where
      go : (p z : Bool) → Gives (cond p (kept m b (bit_form z)) open_zero) (B.is_zero_at floats b.cells (known_at p z) x os)
      go true true = gives_kept stands_one q
      go true false = gives_kept stands_zero q
      go false z =
          let n = not_gives m b f q h in
          let r = one_minus_grown m b f in
          rw (← r.cells) (relu_gives _ _ _ (whole_still r w) n.ops n.form)

  pub step_grown : Grown m b (step_within m b f).mem (step_within m b f).builder
  unfolding step_within
  step_grown = grown_then (relu_grown m b f) (grown_then (relu_grown _ _ _) (minus_grown _ _ _ _))

  -- the two ops of a threshold
  pub step_gives : {x : Affine} {os : List (Op Affine)} → Whole m.nums m.biases → Ops m b os → Stands m b f x
      → let high = B.relu floats b.cells x os in
      let low = B.relu floats b.cells (S.offset minus_one32 x) high.ops in
      Gives (step_within m b f) (record { form = B.minus floats high.form low.form; ops = low.ops })
  unfolding step_within
  step_gives w q h =
      let r = relu_grown m b f in
      let high = relu_gives m b f w q h in
      let u = relu_in m b f in
      let s = relu_grown u.mem u.builder (offset_form minus_one32 f) in
      let low = rw r.cells at (relu_gives u.mem u.builder (offset_form minus_one32 f) (whole_still r w) high.ops (holds_offset minus_one32 (stands_still r h))) in
      minus_gives _ _ _ _ low.ops (stands_still s high.form) low.form

module _ (m : Mem) (b : Standing) (f : Form) (threshold : Float) where
  pub least_grown : Grown m b (at_least_in m b f threshold).mem (at_least_in m b f threshold).builder
  unfolding at_least_in
  least_grown = go (eqb f.len 0)
    where
      go : (t : Bool) → Grown m b (cond t (kept m b (bit_form (le threshold f.bias))) (step_within m b (offset_form (sub binary32 one32 threshold) f))).mem (cond t (kept m b (bit_form (le threshold f.bias))) (step_within m b (offset_form (sub binary32 one32 threshold) f))).builder
      go true = grown_none
      go false = step_grown m b _

module _ (m : Mem) (b : Standing) (f : Form) (k : ℕ) where
  pub least_gives : {x : Affine} {os : List (Op Affine)} → Whole m.nums m.biases → Ops m b os → Stands m b f x → Gives (at_least_in m b f (number k)) (B.at_least floats b.cells x k os)
  unfolding at_least_in B.at_least B.at_least_at B.step known_at
  least_gives {x} {os} w q h =
      gives_if (λ t. let z = h.holds ((least_grown m b f (number k)).arena.was t) in rw (known_is z) (go (eqb f.len 0) (eq f.bias zero32) (le (number k) f.bias) (ap (le (number k)) z.bias)))
    where
      go : (p z l : Bool) → l ≡ le (number k) x.bias → Gives (cond p (kept m b (bit_form l)) (step_within m b (offset_form (sub binary32 one32 (number k)) f))) (B.at_least_at floats b.cells (known_at p z) x k os)
      go true true l e = rw (← e) (gives_kept (stands_bit l) q)
      go true false l e = rw (← e) (gives_kept (stands_bit l) q)
      go false z l e = rw (difference_minus_one, number_one) (step_gives m b _ w q (holds_offset (sub binary32 one32 (number k)) h))

module _ (m : Mem) (b : Standing) (f g : Form) where
  abbrev and_of : Bool → Bool → Bool → Bool → Ended
  and_of p z p' z' =
      cond (p && not z) (kept m b g) (cond (p' && not z') (kept m b f) (cond ((p && z) || (p' && z')) (kept m b (constant_form zero32)) (push_in m b f g)))

  pub and_grown : Grown m b (and_in m b f g).mem (and_in m b f g).builder
  unfolding and_in
  and_grown = go (is_true_form f) (is_true_form g) (is_false_form f || is_false_form g)
    where
      go : (s t u : Bool) → let e = cond s (kept m b g) (cond t (kept m b f) (cond u (kept m b (constant_form zero32)) (push_in m b f g))) in Grown m b e.mem e.builder
      go true t u = grown_none
      go false true u = grown_none
      go false false true = grown_none
      go false false false = push_grown m b f g

  pub and_gives : {x y : Affine} {os : List (Op Affine)} → Whole m.nums m.biases → Ops m b os → Stands m b f x → Stands m b g y → Gives (and_in m b f g) (B.and floats b.cells x y os)
  unfolding and_in B.and B.and_at known_at
  and_gives {x} {y} {os} w q hx hy =
      gives_if (λ t. let k = and_grown.arena.was t in rw (known_is (hx.holds k), known_is (hy.holds k)) (go (eqb f.len 0) (eq f.bias zero32) (eqb g.len 0) (eq g.bias zero32)))
    where
      go : (p z p' z' : Bool) → Gives (and_of p z p' z') (B.and_at floats b.cells (known_at p z) (known_at p' z') x y os)
      go true false p' z' = gives_kept hy q
      go true true true false = gives_kept hx q
      go true true true true = gives_kept stands_zero q
      go true true false z' = gives_kept stands_zero q
      go false z true false = gives_kept hx q
      go false z true true = gives_kept stands_zero q
      go false z false z' = push_gives m b f g w q hx hy

  pub either_grown : Grown m b (either_in m b f g).mem (either_in m b f g).builder
  unfolding either_in
  either_grown = grown_then (push_grown m b f g) (grown_then (plus_grown _ _ f g) (minus_grown _ _ _ _))

  pub either_gives : {x y : Affine} {os : List (Op Affine)} → Whole m.nums m.biases → Ops m b os → Stands m b f x → Stands m b g y
      → let both = B.push floats b.cells x y os in
      Gives (either_in m b f g) (record { form = B.minus floats (S.plus x y) both.form; ops = both.ops })
  unfolding either_in
  either_gives w q hx hy =
      let r = push_grown m b f g in
      let both = push_gives m b f g w q hx hy in
      let u = push_in m b f g in
      let s = plus_grown u.mem u.builder f g in
      let sum = plus_gives u.mem u.builder f g both.ops (stands_still r hx) (stands_still r hy) in
      minus_gives _ _ _ _ sum.ops sum.form (stands_still s both.form)

  pub or_grown : Grown m b (or_in m b f g).mem (or_in m b f g).builder
  unfolding or_in
  or_grown = go (is_true_form f || is_true_form g) (is_false_form f) (is_false_form g)
    where
      go : (s t u : Bool) → let e = cond s (kept m b (constant_form one32)) (cond t (kept m b g) (cond u (kept m b f) (either_in m b f g))) in Grown m b e.mem e.builder
      go true t u = grown_none
      go false true u = grown_none
      go false false true = grown_none
      go false false false = either_grown

  abbrev or_of : Bool → Bool → Bool → Bool → Ended
  or_of p z p' z' =
      cond ((p && not z) || (p' && not z')) (kept m b (constant_form one32)) (cond (p && z) (kept m b g) (cond (p' && z') (kept m b f) (either_in m b f g)))

  pub or_gives : {x y : Affine} {os : List (Op Affine)} → Whole m.nums m.biases → Ops m b os → Stands m b f x → Stands m b g y → Gives (or_in m b f g) (B.or floats b.cells x y os)
  unfolding or_in B.or B.or_at known_at
  or_gives {x} {y} {os} w q hx hy =
      gives_if (λ t.
      let k = or_grown.arena.was t in
      go (eqb f.len 0) (eq f.bias zero32) (eqb g.len 0) (eq g.bias zero32) (known_is (hx.holds k)) (known_is (hy.holds k)))
    where
      go : (p z p' z' : Bool) → known x ≡ known_at p z → known y ≡ known_at p' z' → Gives (or_of p z p' z') (B.or_at floats b.cells (known x) (known y) x y os)
      go true false p' z' d e = rw d (gives_kept stands_one q)
      go true true true false d e = rw (d, e) (gives_kept stands_one q)
      go true true true true d e = rw (d, e) (gives_kept hy q)
      go true true false z' d e = rw (d, e) (gives_kept hy q)
      go false z true false d e = rw (d, e) (gives_kept stands_one q)
      go false z true true d e = rw (d, e) (gives_kept hx q)
      go false z false z' d e = rw (d, e, and_open b.cells x y os d e) (either_gives w q hx hy)

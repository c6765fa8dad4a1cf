-- What an outcome gives a caller: the form stands for the operation's value, what stood for something still does, and with room enough the flag stays up.
-- Every law takes what a contract says, `Leaves` of the operation's outcome.
use mathlib.Core.Path.{◌≡◌, refl, sym, ap, ◌∙◌}
use mathlib.Core.List.{List, [], ◌∷◌}
use mathlib.Core.Bool.{Bool, true, false, ◌&&◌, cond, false≢true}
use Prim.Native.Nat.{ℕ, ◌+◌, ◌≤◌, ◌<◌}
use native.Mathlib.Omega.{arith}
use Rattle.std.proofs.lemmas.Bool.Decides.{nat_tests}
use borrow.Author.Tests.{eqb-true, eqb-false, le-leb, lt-ltb}
use lib.Dec.{eqb}
use lib.ListN.{length}
use lib.Seq.{sets, length-sets}
use lib.Ieee.{Float, binary32, add}
use Rattle.exact.specs.Whole.{zero32, one32, minus_one32}
use Rattle.wire.specs.declared.Form.{Form}
use Rattle.wire.specs.declared.Term.{Term}
use Rattle.lists.specs.Each.{each}
use Rattle.wire.specs.Terms.{Affine, term_at, part, terms_of, constant_form}
use Rattle.wire.specs.Storage.{term_slots}
use Rattle.lists.proofs.Entries.{each_length}
use Rattle.arena_room.specs.declared.Room.{Room}
use Rattle.arena_terms.specs.Sums.{kept, merge, summed, scaled_terms, times, constant, single, offset, scaled, one_minus, plus}
use Rattle.arena_room.specs.Fits.{single_fits, fits_sum, fits_scaled}
use Rattle.arena.specs.Arena.{Outcome, Formed, Leaves, refused_in, shared_in, written_in, offset_form, single_in, plus_in, scaled_in, one_minus_in}
use Rattle.arena_terms.specs.Steps.{wires_in, coefs_in, Put}
use Rattle.arena_laws.specs.Holds.{Is, Holds, Grows, Lives}
use Rattle.arena_terms.proofs.Put.{put_keeps, put_own}
use Rattle.arena_laws.proofs.Lengths.{merged_length, scaled_length}
use Rattle.lists.proofs.Tests.{both_sides}

-- ---- forms that stand for values

module _ {ws : List ℕ} {cs : List Float} {used : ℕ} {f : Form} {x : Affine} (h : Is ws cs used f x) where
  pub is_length : f.len ≡ length x.terms
  unfolding part
  is_length = sym (each_length (term_at ws cs) f.first f.len) ∙ ap length h.terms

pub holds_constant : {ws : List ℕ} {cs : List Float} {room : Room} (bias : Float) → Holds ws cs room (constant_form bias) (constant bias)
unfolding constant part each
holds_constant bias = record { holds = λ t. record { below = omega arith; terms = refl; bias = refl } }

pub holds_offset : {ws : List ℕ} {cs : List Float} {room : Room} {f : Form} {x : Affine} (shift : Float) → Holds ws cs room f x → Holds ws cs room (offset_form shift f) (offset shift x)
unfolding offset
holds_offset shift h = record { holds = λ t. let q = h.holds t in record { below = q.below; terms = q.terms; bias = ap (λ (z : Float). add binary32 z shift) q.bias } }

-- ---- growing

pub grows_none : {ws : List ℕ} {cs : List Float} {room : Room} → Grows ws cs room ws cs room
grows_none = record { wires = refl; coefs = refl; was = λ e. e; more = omega arith; keeps = λ i n l. refl }

module _ {ws : List ℕ} {cs : List Float} {room : Room} {ws' : List ℕ} {cs' : List Float} {room' : Room} (g : Grows ws cs room ws' cs' room') where
  -- a form stands for what it did
  pub holds_stays : {f : Form} {x : Affine} → Holds ws cs room f x → Holds ws' cs' room' f x
  holds_stays h = record { holds = λ e. let q = h.holds (g.was e) in record { below = omega (arith, g.more, q.below); terms = g.keeps _ _ q.below ∙ q.terms; bias = q.bias } }

  pub grows_then : {ws'' : List ℕ} {cs'' : List Float} {room'' : Room} → Grows ws' cs' room' ws'' cs'' room'' → Grows ws cs room ws'' cs'' room''
  grows_then k =
      let m = g.more in
      record {
        wires = k.wires ∙ g.wires;
        coefs = k.coefs ∙ g.coefs;
        was = λ e. g.was (k.was e);
        more = omega (arith, k.more);
        keeps = λ i n l. k.keeps i n (omega arith) ∙ g.keeps i n l;
      }

-- ---- the outcomes

left_grows : {ws : List ℕ} {cs : List Float} {room : Room} {o : Outcome} {ws' : List ℕ} {cs' : List Float} {r : Formed} → Leaves o ws' cs' r
    → Grows ws cs room o.wires o.coefs o.room → Grows ws cs room ws' cs' r.room
left_grows l g = rw (l.wires, l.coefs, l.room) g

left_holds : {o : Outcome} {ws' : List ℕ} {cs' : List Float} {r : Formed} {x : Affine} → Leaves o ws' cs' r → Holds o.wires o.coefs o.room o.form x → Holds ws' cs' r.room r.form x
left_holds l h = rw (l.wires, l.coefs, l.room, l.form) h

left_lives : {room : Room} {o : Outcome} {ws' : List ℕ} {cs' : List Float} {r : Formed} {slots n : ℕ} → Leaves o ws' cs' r → Lives slots room o.room n → Lives slots room r.room n
left_lives l h = rw l.room h

-- a test's two cases
either : (P : Outcome → Type 0) (b : Bool) (y n : Outcome) → (b ≡ true → P y) → (b ≡ false → P n) → P (cond b y n)
either P true y n f g = f refl
either P false y n f g = g refl

-- terms written where there is room, and a refusal where not
module _ (ws : List ℕ) (cs : List Float) (room : Room) (bias : Float) (ts : List Term) (fits : Bool) where
  tried : Outcome
  tried = cond fits (written_in ws cs room.used bias ts) (refused_in ws cs room)

  put : Put ws cs room.used ts (sets ws room.used (wires_in ts)) (sets cs room.used (coefs_in ts)) (room.used + length ts)
  put = record { wires = refl; coefs = refl; used = refl }

  tried_grows : (fits ≡ true → room.ok ≡ true) → Grows ws cs room tried.wires tried.coefs tried.room
  unfolding tried
  tried_grows ok = either (λ (o : Outcome). Grows ws cs room o.wires o.coefs o.room) fits (written_in ws cs room.used bias ts) (refused_in ws cs room)
      (λ e. record { wires = length-sets ws room.used (wires_in ts); coefs = length-sets cs room.used (coefs_in ts); was = λ t. ok e; more = omega arith; keeps = put_keeps put })
      (λ e. record { wires = refl; coefs = refl; was = λ t. absurd (false≢true t); more = omega arith; keeps = λ i n l. refl })

  tried_holds : (x : Affine) → (fits ≡ true → room.used + length ts ≤ term_slots (length ws) (length cs)) → (fits ≡ true → (bias ≡ x.bias) × (ts ≡ x.terms))
      → Holds tried.wires tried.coefs tried.room tried.form x
  unfolding tried
  tried_holds x room_for same = either (λ (o : Outcome). Holds o.wires o.coefs o.room o.form x) fits (written_in ws cs room.used bias ts) (refused_in ws cs room)
      (λ e. let h = room_for e in record { holds = λ t. record { below = omega arith; terms = put_own put (omega arith) (omega arith) ∙ (same e).1; bias = (same e).0 } })
      (λ e. record { holds = λ t. absurd (false≢true t) })

  tried_lives : (slots need : ℕ) → (room.ok ≡ true → room.used + need ≤ slots → (fits ≡ true) × (length ts ≤ need)) → Lives slots room tried.room need
  unfolding tried
  tried_lives slots need enough = record { lives = λ t l. go (enough t l) }
    where
      go : (fits ≡ true) × (length ts ≤ need) → (tried.room.ok ≡ true) × (tried.room.used ≤ room.used + need)
      go h = either (λ (o : Outcome). (o.room.ok ≡ true) × (o.room.used ≤ room.used + need)) fits (written_in ws cs room.used bias ts) (refused_in ws cs room) (λ e. (refl, omega (arith, h.1))) (λ e. absurd (false≢true (sym e ∙ h.0)))

-- ---- room for an operation

single_room : (slots : ℕ) (room : Room) → single_fits slots room ≡ true → room.used < slots
single_room slots room e = grind (arith, nat_tests)

scaled_room : (slots : ℕ) (room : Room) (a : Form) → fits_scaled slots room a ≡ true → room.used + a.len ≤ slots
scaled_room slots room a e = grind (arith, nat_tests)

sum_room : (slots : ℕ) (room : Room) (a b : Form) → fits_sum slots room a b ≡ true → room.used + a.len + b.len ≤ slots
sum_room slots room a b e = grind (arith, nat_tests)

-- ---- one wire

module _ (ws : List ℕ) (cs : List Float) (room : Room) (w : ℕ) {ws' : List ℕ} {cs' : List Float} {r : Formed} (l : Leaves (single_in ws cs room w) ws' cs' r) where
  abbrev one_term : List Term
  one_term = record { wire = record { 0 = w }; coef = one32 } ∷ []

  abbrev single_fit : Bool
  single_fit = single_fits (term_slots (length ws) (length cs)) room

  pub single_grows : Grows ws cs room ws' cs' r.room
  unfolding single_in tried
  single_grows = left_grows l (tried_grows ws cs room zero32 one_term single_fit (λ e. (both_sides _ _ e).0))

  pub single_holds : Holds ws' cs' r.room r.form (single w)
  unfolding single_in tried single
  single_holds = left_holds l (tried_holds ws cs room zero32 one_term single_fit (single w) (λ e. let room_for = single_room _ room e in omega arith) (λ e. (refl, refl)))

  pub single_lives : Lives (term_slots (length ws) (length cs)) room r.room 1
  unfolding single_in tried
  single_lives =
      left_lives l
      (tried_lives ws cs room zero32 one_term single_fit _ 1 (λ t h. (λ i. t i && lt-ltb room.used (term_slots (length ws) (length cs)) (omega arith) i, omega arith)))

-- ---- a form times a factor

module _ (ws : List ℕ) (cs : List Float) (room : Room) (a : Form) (factor : Float) {ws' : List ℕ} {cs' : List Float} {r : Formed} (l : Leaves (scaled_in ws cs room a factor) ws' cs' r) where
  abbrev scaled_fit : Bool
  scaled_fit = fits_scaled (term_slots (length ws) (length cs)) room a

  abbrev scaled_new : List Term
  scaled_new = scaled_terms factor (terms_of ws cs a)

  new_length : length scaled_new ≤ a.len
  unfolding part
  new_length = omega (arith, scaled_length factor (terms_of ws cs a), each_length (term_at ws cs) a.first a.len)

  pub scaled_grows : Grows ws cs room ws' cs' r.room
  unfolding scaled_in tried
  scaled_grows = left_grows l (tried_grows ws cs room (times factor a.bias) scaled_new scaled_fit (λ e. (both_sides _ _ e).0))

  pub scaled_holds : {x : Affine} → Holds ws cs room a x → Holds ws' cs' r.room r.form (scaled factor x)
  unfolding scaled_in tried scaled
  scaled_holds {x} h =
      left_holds l
      (tried_holds ws cs room (times factor a.bias) scaled_new scaled_fit (scaled factor x)
      (λ e. let room_for = scaled_room _ room a e in omega (arith, new_length))
      (λ e. let q = h.holds (both_sides _ _ e).0 in (ap (times factor) q.bias, ap (scaled_terms factor) q.terms)))

  pub scaled_lives : {x : Affine} → Holds ws cs room a x → Lives (term_slots (length ws) (length cs)) room r.room (length x.terms)
  unfolding scaled_in tried
  scaled_lives {x} h = left_lives l (tried_lives ws cs room (times factor a.bias) scaled_new scaled_fit _ (length x.terms) (λ t e. enough t e (h.holds t)))
    where
      enough : room.ok ≡ true → room.used + length x.terms ≤ term_slots (length ws) (length cs) → Is ws cs room.used a x → (scaled_fit ≡ true) × (length scaled_new ≤ length x.terms)
      enough t e q =
          let n = is_length q in
          (λ i. t i && (le-leb (a.first + a.len) room.used q.below i && le-leb (room.used + a.len) (term_slots (length ws) (length cs)) (omega arith) i), omega (arith, new_length))

-- ---- 1 less a form

module _ (ws : List ℕ) (cs : List Float) (room : Room) (a : Form) {ws' : List ℕ} {cs' : List Float} {r : Formed} (l : Leaves (one_minus_in ws cs room a) ws' cs' r) where
  -- as its own call of `scaled` left it
  before : Formed
  before = record { form = (scaled_in ws cs room a minus_one32).form; room = (scaled_in ws cs room a minus_one32).room }

  left : Leaves (scaled_in ws cs room a minus_one32) (one_minus_in ws cs room a).wires (one_minus_in ws cs room a).coefs before
  unfolding one_minus_in before
  left = record { wires = refl; coefs = refl; form = refl; room = refl }

  pub one_minus_grows : Grows ws cs room ws' cs' r.room
  unfolding one_minus_in before
  one_minus_grows = left_grows l (scaled_grows ws cs room a minus_one32 left)

  pub one_minus_holds : {x : Affine} → Holds ws cs room a x → Holds ws' cs' r.room r.form (one_minus x)
  unfolding one_minus_in before one_minus
  one_minus_holds h = left_holds l (holds_offset one32 (scaled_holds ws cs room a minus_one32 left h))

  pub one_minus_lives : {x : Affine} → Holds ws cs room a x → Lives (term_slots (length ws) (length cs)) room r.room (length x.terms)
  unfolding one_minus_in before
  one_minus_lives h = left_lives l (scaled_lives ws cs room a minus_one32 left h)

-- ---- a sum

summed_none : (xs ys : List Term) → length ys ≡ 0 → summed xs ys ≡ xs
unfolding summed
summed_none [] [] e = refl
summed_none (x ∷ xs) [] e = refl
summed_none xs (y ∷ ys) e = absurd (omega arith)

none_summed : (xs ys : List Term) → length xs ≡ 0 → summed xs ys ≡ ys
unfolding summed
none_summed [] ys e = refl
none_summed (x ∷ xs) ys e = absurd (omega arith)

some_summed : (xs ys : List Term) → (length xs ≡ 0 → ⊥) → (length ys ≡ 0 → ⊥) → kept (merge xs ys) ≡ summed xs ys
unfolding summed
some_summed [] ys n m = absurd (n refl)
some_summed (x ∷ xs) [] n m = absurd (m refl)
some_summed (x ∷ xs) (y ∷ ys) n m = refl

module _ (ws : List ℕ) (cs : List Float) (room : Room) (a b : Form) where
  abbrev sum_bias : Float
  sum_bias = add binary32 a.bias b.bias

  abbrev sum_fit : Bool
  sum_fit = fits_sum (term_slots (length ws) (length cs)) room a b

  abbrev sum_new : List Term
  sum_new = kept (merge (terms_of ws cs a) (terms_of ws cs b))

  sum_length : length sum_new ≤ a.len + b.len
  unfolding part
  sum_length =
      omega (arith, merged_length (terms_of ws cs a) (terms_of ws cs b), each_length (term_at ws cs) a.first a.len, each_length (term_at ws cs) b.first b.len)

  -- the three cases
  plus_cases : (P : Outcome → Type 0) → (b.len ≡ 0 → P (shared_in ws cs room sum_bias a)) → (a.len ≡ 0 → P (shared_in ws cs room sum_bias b))
      → ((a.len ≡ 0 → ⊥) → (b.len ≡ 0 → ⊥) → P (tried ws cs room sum_bias sum_new sum_fit)) → P (plus_in ws cs room a b)
  unfolding plus_in tried
  plus_cases P right left full =
      either P (eqb b.len 0) _ _ (λ e. right (eqb-true b.len 0 e))
      (λ n. either P (eqb a.len 0) _ _ (λ e. left (eqb-true a.len 0 e)) (λ m. full (eqb-false a.len 0 m) (eqb-false b.len 0 n)))

  module _ {ws' : List ℕ} {cs' : List Float} {r : Formed} (l : Leaves (plus_in ws cs room a b) ws' cs' r) where
    pub plus_grows : Grows ws cs room ws' cs' r.room
    plus_grows =
        left_grows l
        (plus_cases (λ (o : Outcome). Grows ws cs room o.wires o.coefs o.room) (λ e. grows_none) (λ e. grows_none)
        (λ n m. tried_grows ws cs room sum_bias sum_new sum_fit (λ e. (both_sides _ _ e).0)))

    pub plus_holds : {x y : Affine} → Holds ws cs room a x → Holds ws cs room b y → Holds ws' cs' r.room r.form (plus x y)
    unfolding plus
    plus_holds {x} {y} ha hb =
        left_holds l
        (plus_cases (λ (o : Outcome). Holds o.wires o.coefs o.room o.form (plus x y))
        (λ e. record {
          holds = λ t. let p = ha.holds t in let q = hb.holds t in
              record { below = p.below; terms = p.terms ∙ sym (summed_none x.terms y.terms (sym (is_length q) ∙ e)); bias = λ i. add binary32 (p.bias i) (q.bias i) };
        })
        (λ e. record {
          holds = λ t. let p = ha.holds t in let q = hb.holds t in
              record { below = q.below; terms = q.terms ∙ sym (none_summed x.terms y.terms (sym (is_length p) ∙ e)); bias = λ i. add binary32 (p.bias i) (q.bias i) };
        })
        (λ n m. tried_holds ws cs room sum_bias sum_new sum_fit (plus x y)
        (λ e. let room_for = sum_room _ room a b e in omega (arith, sum_length))
        (λ e. let t = (both_sides _ _ e).0 in let p = ha.holds t in let q = hb.holds t in (
          (λ i. add binary32 (p.bias i) (q.bias i)),
          (λ i. kept (merge (p.terms i) (q.terms i))) ∙ some_summed x.terms y.terms (λ z. n (is_length p ∙ z)) (λ z. m (is_length q ∙ z)),
        ))))

    pub plus_lives : {x y : Affine} → Holds ws cs room a x → Holds ws cs room b y → Lives (term_slots (length ws) (length cs)) room r.room (length x.terms + length y.terms)
    plus_lives {x} {y} ha hb =
        left_lives l
        (plus_cases (λ (o : Outcome). Lives (term_slots (length ws) (length cs)) room o.room (length x.terms + length y.terms))
        (λ e. record { lives = λ t h. (t, omega arith) })
        (λ e. record { lives = λ t h. (t, omega arith) })
        (λ n m. tried_lives ws cs room sum_bias sum_new sum_fit _ _ (λ t h. enough t h (ha.holds t) (hb.holds t))))
      where
        enough : room.ok ≡ true → room.used + (length x.terms + length y.terms) ≤ term_slots (length ws) (length cs) → Is ws cs room.used a x → Is ws cs room.used b y
            → (sum_fit ≡ true) × (length sum_new ≤ length x.terms + length y.terms)
        enough t h p q =
            let n = is_length p in
            let m = is_length q in (
              λ i. t i && (le-leb (a.first + a.len) room.used p.below i && (le-leb (b.first + b.len) room.used q.below i && le-leb (room.used + a.len + b.len) (term_slots (length ws) (length cs)) (omega arith) i)),
              omega (arith, sum_length),
            )

-- The operations of the table followed: each gives what the construction over floats gives, leaves what stands, and needs so much room.
use Prim.Native.Nat.{ℕ, suc, ◌+◌, ◌*◌, ◌≤◌, ◌<◌}
use native.Mathlib.Omega.{arith}
use native.Mathlib.Numerals.{add-one}
use mathlib.Core.Path.{◌≡◌, refl, ap, ◌∙◌}
use mathlib.Core.List.{List, [], ◌∷◌}
use mathlib.Core.Bool.{Bool, true, false, cond, false≢true}
use borrow.Author.Tests.{leb-true, leb-false}
use lib.Dec.{leb}
use lib.ListN.{length, set, length-set}
use lib.Seq.{get_or-set_same, get_or-set_other}
use lib.Ieee.{Float, nan}
use Rattle.wire.specs.declared.Form.{Form}
use Rattle.wire.specs.Terms.{Affine}
use Rattle.wire.specs.Storage.{term_slots}
use Rattle.arena_room.specs.declared.Room.{Room}
use Rattle.arena_terms.specs.Sums as S
use Rattle.arena.specs.Arena as A
use Rattle.arena_laws.specs.Holds.{Is, Holds, Grows, Lives}
use Rattle.arena_laws.proofs.Holds.{grows_none, grows_then, holds_stays, single_grows, single_holds, single_lives, scaled_grows, scaled_holds, scaled_lives, one_minus_grows, one_minus_holds, one_minus_lives, plus_grows, plus_holds, plus_lives}
use Rattle.construct.specs.Builder.{Op, push}
use Rattle.construct_floats.specs.Floats.{floats}
use Rattle.builder_table.specs.Work.{Standing, Mem, Ended, loaded, saved, kept}
use Rattle.builder_table.specs.Slots.{ops_from}
use Rattle.builder_table.specs.Whole.{Whole, ops_most, slots_most}
use Rattle.builder_table.specs.Steps.{in_arena, wire_in, plus_in, scaled_in, one_minus_in, full_builder, full_in, push_in}
use Rattle.builder_laws.specs.Table.{OpsAt, Ops, Stands, Gives, Grown, Lasts}

-- ---- followed one after the other

pub grown_none : {m : Mem} {b : Standing} → Grown m b m b
grown_none = record { arena = grows_none; nums = refl; biases = refl; slots = λ k l. refl; cells = refl }

pub grown_then : {m : Mem} {b : Standing} {m' : Mem} {b' : Standing} {m'' : Mem} {b'' : Standing} → Grown m b m' b' → Grown m' b' m'' b'' → Grown m b m'' b''
grown_then g h =
    record { arena = grows_then g.arena h.arena; nums = h.nums ∙ g.nums; biases = h.biases ∙ g.biases; slots = λ k l. h.slots k l ∙ g.slots k l; cells = h.cells ∙ g.cells }

pub stands_still : {m : Mem} {b : Standing} {m' : Mem} {b' : Standing} {f : Form} {x : Affine} → Grown m b m' b' → Stands m b f x → Stands m' b' f x
stands_still g h = holds_stays g.arena h

pub whole_still : {m : Mem} {b : Standing} {m' : Mem} {b' : Standing} → Grown m b m' b' → Whole m.nums m.biases → Whole m'.nums m'.biases
whole_still g w = (omega (arith, g.nums, w.0), omega (arith, g.biases, w.1))

-- nothing done
pub gives_kept : {m : Mem} {b : Standing} {f : Form} {x : Affine} {os : List (Op Affine)} → Stands m b f x → Ops m b os → Gives (kept m b f) (record { form = x; ops = os })
gives_kept h q = record { form = h; ops = q }

pub lasts_kept : {m : Mem} {b : Standing} (need k : ℕ) → Lasts m b b need k
lasts_kept need k = record { lasts = λ t c o a. (t, omega arith, omega arith) }

pub lasts_on : {m : Mem} {b : Standing} {m' : Mem} {b' b'' : Standing} {n k n' k' : ℕ} → Grows m.wires m.coefs b.room m'.wires m'.coefs b'.room → b'.cells ≡ b.cells
    → Lasts m b b' n k → Lasts m' b' b'' n' k' → Lasts m b b'' (n + n') (k + k')
lasts_on {m} {m' = m'} g e h l = record {
  lasts = λ t c o a.
      let s : term_slots (length m'.wires) (length m'.coefs) ≡ term_slots (length m.wires) (length m.coefs) = λ i. term_slots (g.wires i) (g.coefs i) in
      let p = h.lasts t c (omega arith) (omega arith) in
      let q = l.lasts p.0 (omega (arith, e)) (omega (arith, p.2)) (omega (arith, p.1)) in
      (q.0, omega (arith, p.1, q.1), omega (arith, p.2, q.2));
}

pub lasts_then : {m : Mem} {b : Standing} {m' : Mem} {b' b'' : Standing} {n k n' k' : ℕ} → Grown m b m' b' → Lasts m b b' n k → Lasts m' b' b'' n' k' → Lasts m b b'' (n + n') (k + k')
lasts_then g h l = lasts_on g.arena g.cells h l

pub lasts_wide : {m : Mem} {b b' : Standing} {n k : ℕ} (n' k' : ℕ) → n ≤ n' → k ≤ k' → Lasts m b b' n k → Lasts m b b' n' k'
lasts_wide n' k' a c h = record { lasts = λ t d o e. let r = h.lasts t d (omega arith) (omega arith) in (r.0, omega (arith, r.1), omega (arith, r.2)) }

-- ---- an operation of the arena

is_still : {ws : List ℕ} {cs : List Float} {room : Room} {ws' : List ℕ} {cs' : List Float} {room' : Room} {f : Form} {x : Affine}
    → Grows ws cs room ws' cs' room' → Is ws cs room.used f x → Is ws' cs' room'.used f x
is_still g q = record { below = omega (arith, g.more, q.below); terms = g.keeps _ _ q.below ∙ q.terms; bias = q.bias }

-- ops whose slots stay
pub ops_still : (m : Mem) (b : Standing) (m' : Mem) (b' : Standing) (os : List (Op Affine)) → Grows m.wires m.coefs b.room m'.wires m'.coefs b'.room
    → ((k : ℕ) → ops_from ≤ k → k < ops_from + 2 * length os → loaded m' k ≡ loaded m k) → OpsAt m b.room.used os → OpsAt m' b'.room.used os
ops_still m b m' b' [] g s h = tt
ops_still m b m' b' (o ∷ os) g s h = (
  rw (s (ops_from + 2 * length os) (omega arith) (omega arith)) (is_still g h.0),
  rw (s (ops_from + 2 * length os + 1) (omega arith) (omega arith)) (is_still g h.1),
  ops_still m b m' b' os g (λ k a l. s k a (omega arith)) h.2,
)

module _ (m : Mem) (b : Standing) (o : A.Outcome) where
  arena_grown : Grows m.wires m.coefs b.room o.wires o.coefs o.room → Grown m b (in_arena m b o).mem (in_arena m b o).builder
  arena_grown g = record { arena = g; nums = refl; biases = refl; slots = λ k l. refl; cells = refl }

  arena_gives : {x : Affine} {os : List (Op Affine)} → Grows m.wires m.coefs b.room o.wires o.coefs o.room → Holds o.wires o.coefs o.room o.form x
      → Ops m b os → Gives (in_arena m b o) (record { form = x; ops = os })
  arena_gives {x} {os} g h q =
      record {
        form = h;
        ops = record {
          holds = λ t.
              let z = q.holds (g.was t) in
              record { count = z.count; all = ops_still m b (in_arena m b o).mem (in_arena m b o).builder os g (λ k a l. refl) z.all };
        };
      }

  arena_lasts : {n : ℕ} → Lives (term_slots (length m.wires) (length m.coefs)) b.room o.room n → Lasts m b (in_arena m b o).builder n 0
  arena_lasts h = record { lasts = λ t c k a. let p = h.lives t (omega arith) in (p.0, p.1, omega arith) }

leaves : (o : A.Outcome) → A.Leaves o o.wires o.coefs (record { form = o.form; room = o.room })
leaves o = record { wires = refl; coefs = refl; form = refl; room = refl }

module _ (m : Mem) (b : Standing) where
  module _ (w : ℕ) where
    pub wire_grown : Grown m b (wire_in m b w).mem (wire_in m b w).builder
    unfolding wire_in
    wire_grown = arena_grown m b (A.single_in m.wires m.coefs b.room w) (single_grows _ _ b.room w (leaves _))

    pub wire_gives : {os : List (Op Affine)} → Ops m b os → Gives (wire_in m b w) (record { form = S.single w; ops = os })
    unfolding wire_in
    wire_gives q = arena_gives m b (A.single_in m.wires m.coefs b.room w) (single_grows _ _ b.room w (leaves _)) (single_holds _ _ b.room w (leaves _)) q

    pub wire_lasts : Lasts m b (wire_in m b w).builder 1 0
    unfolding wire_in
    wire_lasts = arena_lasts m b (A.single_in m.wires m.coefs b.room w) (single_lives _ _ b.room w (leaves _))

  module _ (f g : Form) where
    pub plus_grown : Grown m b (plus_in m b f g).mem (plus_in m b f g).builder
    unfolding plus_in
    plus_grown = arena_grown m b (A.plus_in m.wires m.coefs b.room f g) (plus_grows _ _ b.room f g (leaves _))

    pub plus_gives : {x y : Affine} {os : List (Op Affine)} → Ops m b os → Stands m b f x → Stands m b g y → Gives (plus_in m b f g) (record { form = S.plus x y; ops = os })
    unfolding plus_in
    plus_gives q hx hy = arena_gives m b (A.plus_in m.wires m.coefs b.room f g) (plus_grows _ _ b.room f g (leaves _)) (plus_holds _ _ b.room f g (leaves _) hx hy) q

    pub plus_lasts : {x y : Affine} → Stands m b f x → Stands m b g y → Lasts m b (plus_in m b f g).builder (length x.terms + length y.terms) 0
    unfolding plus_in
    plus_lasts hx hy = arena_lasts m b (A.plus_in m.wires m.coefs b.room f g) (plus_lives _ _ b.room f g (leaves _) hx hy)

  module _ (f : Form) where
    pub scaled_grown : (factor : Float) → Grown m b (scaled_in m b f factor).mem (scaled_in m b f factor).builder
    unfolding scaled_in
    scaled_grown factor = arena_grown m b (A.scaled_in m.wires m.coefs b.room f factor) (scaled_grows _ _ b.room f factor (leaves _))

    pub scaled_gives : (factor : Float) {x : Affine} {os : List (Op Affine)} → Ops m b os → Stands m b f x → Gives (scaled_in m b f factor) (record { form = S.scaled factor x; ops = os })
    unfolding scaled_in
    scaled_gives factor q h = arena_gives m b (A.scaled_in m.wires m.coefs b.room f factor) (scaled_grows _ _ b.room f factor (leaves _)) (scaled_holds _ _ b.room f factor (leaves _) h) q

    pub scaled_lasts : (factor : Float) {x : Affine} → Stands m b f x → Lasts m b (scaled_in m b f factor).builder (length x.terms) 0
    unfolding scaled_in
    scaled_lasts factor h = arena_lasts m b (A.scaled_in m.wires m.coefs b.room f factor) (scaled_lives _ _ b.room f factor (leaves _) h)

    pub one_minus_grown : Grown m b (one_minus_in m b f).mem (one_minus_in m b f).builder
    unfolding one_minus_in
    one_minus_grown = arena_grown m b (A.one_minus_in m.wires m.coefs b.room f) (one_minus_grows _ _ b.room f (leaves _))

    pub one_minus_gives : {x : Affine} {os : List (Op Affine)} → Ops m b os → Stands m b f x → Gives (one_minus_in m b f) (record { form = S.one_minus x; ops = os })
    unfolding one_minus_in
    one_minus_gives q h = arena_gives m b (A.one_minus_in m.wires m.coefs b.room f) (one_minus_grows _ _ b.room f (leaves _)) (one_minus_holds _ _ b.room f (leaves _) h) q

    pub one_minus_lasts : {x : Affine} → Stands m b f x → Lasts m b (one_minus_in m b f).builder (length x.terms) 0
    unfolding one_minus_in
    one_minus_lasts h = arena_lasts m b (A.one_minus_in m.wires m.coefs b.room f) (one_minus_lives _ _ b.room f (leaves _) h)

-- ---- an op

-- a slot that was saved, and every other
module _ (m : Mem) (k : ℕ) (f : Form) where
  pub saved_own : Whole m.nums m.biases → k < slots_most → loaded (saved m k f) k ≡ f
  saved_own t h =
      let e0 = get_or-set_same m.biases k f.bias nan (omega (arith, t.1)) in
      let e1 = get_or-set_other (set m.nums (2 * k) f.first) (2 * k + 1) (2 * k) f.len 0 (λ q. omega arith) ∙ get_or-set_same m.nums (2 * k) f.first 0 (omega (arith, t.0)) in
      let e2 = get_or-set_same (set m.nums (2 * k) f.first) (2 * k + 1) f.len 0 (omega (arith, t.0, length-set m.nums (2 * k) f.first)) in
      λ i. record { bias = e0 i; first = e1 i; len = e2 i }

  pub saved_other : (j : ℕ) → (j ≡ k → ⊥) → loaded (saved m k f) j ≡ loaded m j
  saved_other j n =
      let r0 = get_or-set_other m.biases k j f.bias nan n in
      let r1 =
      get_or-set_other (set m.nums (2 * k) f.first) (2 * k + 1) (2 * j) f.len 0 (λ q. omega arith)
      ∙ get_or-set_other m.nums (2 * k) (2 * j) f.first 0 (λ q. n (omega arith)) in
      let r2 =
      get_or-set_other (set m.nums (2 * k) f.first) (2 * k + 1) (2 * j + 1) f.len 0 (λ q. n (omega arith))
      ∙ get_or-set_other m.nums (2 * k) (2 * j + 1) f.first 0 (λ q. omega arith) in
      λ i. record { bias = r0 i; first = r1 i; len = r2 i }

  pub saved_nums_lem : length (saved m k f).nums ≡ length m.nums
  saved_nums_lem = simp length-set

  pub saved_biases_lem : length (saved m k f).biases ≡ length m.biases
  saved_biases_lem = simp length-set

module _ (m : Mem) (b : Standing) (left gate : Form) where
  -- the table once the op is in it, and the builder that then makes its wire
  abbrev with_op : Mem
  with_op = saved (saved m (ops_from + 2 * b.ops) left) (ops_from + 2 * b.ops + 1) gate

  abbrev counted : Standing
  counted = record { room = b.room; ops = b.ops + 1; cells = b.cells }

  push_cases : (P : Ended → Type 0) → ((b.ops < ops_most → b.cells < 65536 → ⊥) → P (full_in m b)) → (b.ops < ops_most → P (wire_in with_op counted (b.cells + b.ops))) → P (push_in m b left gate)
  unfolding push_in
  push_cases P n y = go (leb ops_most b.ops) (leb-true _ _) (leb-false _ _) (leb 65536 b.cells) (leb-true _ _)
    where
      go : (s : Bool) → (s ≡ true → ops_most ≤ b.ops) → (s ≡ false → b.ops < ops_most) → (t : Bool) → (t ≡ true → 65536 ≤ b.cells)
          → P (cond s (full_in m b) (cond t (full_in m b) (wire_in with_op counted (b.cells + b.ops))))
      go true p r t c = n (λ h k. let q = p refl in omega arith)
      go false p r true c = n (λ h k. let q = c refl in omega arith)
      go false p r false c = y (r refl)

  full_grown : Grown m b m (full_builder b)
  full_grown =
      record { arena = record { wires = refl; coefs = refl; was = λ t. absurd (false≢true t); more = omega arith; keeps = λ i n l. refl }; nums = refl; biases = refl; slots = λ k l. refl; cells = refl }

  op_other : (k : ℕ) → k < ops_from + 2 * b.ops → loaded with_op k ≡ loaded m k
  op_other k h =
      saved_other (saved m (ops_from + 2 * b.ops) left) (ops_from + 2 * b.ops + 1) gate k (λ q. omega arith) ∙ saved_other m (ops_from + 2 * b.ops) left k (λ q. omega arith)

  op_grown : Grown m b with_op counted
  op_grown =
      record {
        arena = grows_none;
        nums = saved_nums_lem (saved m (ops_from + 2 * b.ops) left) (ops_from + 2 * b.ops + 1) gate ∙ saved_nums_lem m (ops_from + 2 * b.ops) left;
        biases = saved_biases_lem (saved m (ops_from + 2 * b.ops) left) (ops_from + 2 * b.ops + 1) gate ∙ saved_biases_lem m (ops_from + 2 * b.ops) left;
        slots = λ k l. op_other k (omega arith);
        cells = refl;
      }

  pub push_grown : Grown m b (push_in m b left gate).mem (push_in m b left gate).builder
  push_grown = push_cases (λ e. Grown m b e.mem e.builder) (λ n. full_grown) (λ h. grown_then op_grown (wire_grown with_op counted (b.cells + b.ops)))

  -- the op is in the table
  op_stands : {x y : Affine} {os : List (Op Affine)} → Whole m.nums m.biases → b.ops < ops_most → Ops m b os → Stands m b left x → Stands m b gate y
      → Ops with_op counted (record { left = x; gate = y } ∷ os)
  op_stands {x} {y} {os} w h q hx hy =
      record {
        holds = λ t.
            let z = q.holds t in
            let n : b.ops ≡ length os = z.count in
            let m1 = saved m (ops_from + 2 * b.ops) left in
            let w1 : Whole m1.nums m1.biases = (omega (arith, saved_nums_lem m (ops_from + 2 * b.ops) left, w.0), omega (arith, saved_biases_lem m (ops_from + 2 * b.ops) left, w.1)) in
            let l : loaded with_op (ops_from + 2 * length os) ≡ left = rw (← n) (saved_other m1 (ops_from + 2 * b.ops + 1) gate (ops_from + 2 * b.ops) (λ e. omega arith) ∙ saved_own m (ops_from + 2 * b.ops) left w (omega arith)) in
            let g : loaded with_op (ops_from + 2 * length os + 1) ≡ gate = rw (← n) (saved_own m1 (ops_from + 2 * b.ops + 1) gate w1 (omega arith)) in
            record {
              count = add-one b.ops ∙ ap suc n;
              all = (rw l (hx.holds t), rw g (hy.holds t), ops_still m b with_op counted os grows_none (λ k a o. op_other k (omega arith)) z.all);
            };
      }

  -- `push` gives the op's wire, and its op before all others
  pub push_gives : {x y : Affine} {os : List (Op Affine)} → Whole m.nums m.biases → Ops m b os → Stands m b left x → Stands m b gate y
      → Gives (push_in m b left gate) (push floats b.cells x y os)
  unfolding push
  push_gives {x} {y} {os} w q hx hy =
      push_cases (λ e. Gives e (push floats b.cells x y os)) (λ n. record { form = record { holds = λ t. absurd (false≢true t) }; ops = record { holds = λ t. absurd (false≢true t) } })
      (λ h.
      let made = wire_gives with_op counted (b.cells + b.ops) (op_stands w h q hx hy) in
      record {
        form = record { holds = λ t. let n = (q.holds ((wire_grown with_op counted (b.cells + b.ops)).arena.was t)).count in rw (← n) (made.form.holds t) };
        ops = made.ops;
      })

  pub push_lasts : Lasts m b (push_in m b left gate).builder 1 1
  push_lasts =
      push_cases (λ e. Lasts m b e.builder 1 1) (λ n. record { lasts = λ t c o a. absurd (n (omega arith) c) })
      (λ h. record {
        lasts = λ t c o a.
            let s = op_grown.arena in
            let p = (wire_lasts with_op counted (b.cells + b.ops)).lasts t c (omega arith) a in
            (p.0, p.1, omega (arith, p.2));
      })

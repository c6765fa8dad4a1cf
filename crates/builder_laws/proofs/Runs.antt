-- How work on the table is followed from one step to the next: what stays, which forms still stand, and that rooms add up.
use Prim.Native.Nat.{ℕ, suc, ◌+◌, ◌-◌, ◌≤◌, ◌<◌}
use native.Mathlib.Omega.{arith}
use mathlib.Core.Path.{◌≡◌, refl, subst, ◌∙◌}
use mathlib.Core.List.{List, [], ◌∷◌}
use lib.ListN.{length}
use Rattle.wire.specs.declared.Form.{Form}
use Rattle.wire.specs.Terms.{Affine}
use Rattle.arena_laws.proofs.Holds.{grows_none, grows_then, holds_stays}
use Rattle.construct.specs.Builder.{Op}
use Rattle.builder_table.specs.Work.{Standing, Mem, loaded, saved}
use Rattle.builder_table.specs.Slots.{ops_from}
use Rattle.builder_table.specs.Whole.{Whole}
use Rattle.builder_laws.specs.Table.{Ops, Stands, Grown}
use Rattle.builder_laws.proofs.Table.{saved_own, saved_other, saved_nums_lem, saved_biases_lem, ops_still, lasts_kept, lasts_on, lasts_wide}
use Rattle.builder_laws.proofs.Running.{Keeps, Runs, Rows, Falls, StackAt}

-- ---- what stays

pub keeps_none : {K : ℕ → Type 0} {m : Mem} {b : Standing} → Keeps K m b m b
keeps_none = record { arena = grows_none; nums = refl; biases = refl; slots = λ k l h. refl; cells = refl }

pub keeps_then : {K : ℕ → Type 0} {m : Mem} {b : Standing} {m' : Mem} {b' : Standing} {m'' : Mem} {b'' : Standing} → Keeps K m b m' b' → Keeps K m' b' m'' b'' → Keeps K m b m'' b''
keeps_then g h =
    record {
      arena = grows_then g.arena h.arena;
      nums = h.nums ∙ g.nums;
      biases = h.biases ∙ g.biases;
      slots = λ k l q. h.slots k l q ∙ g.slots k l q;
      cells = h.cells ∙ g.cells;
    }

-- fewer slots asked for
pub keeps_less : {K K' : ℕ → Type 0} {m : Mem} {b : Standing} {m' : Mem} {b' : Standing} → ((k : ℕ) → K' k → K k) → Keeps K m b m' b' → Keeps K' m b m' b'
keeps_less s g = record { arena = g.arena; nums = g.nums; biases = g.biases; slots = λ k l q. g.slots k l (s k q); cells = g.cells }

pub keeps_grown : {K : ℕ → Type 0} {m : Mem} {b : Standing} {m' : Mem} {b' : Standing} → Grown m b m' b' → Keeps K m b m' b'
keeps_grown g = record { arena = g.arena; nums = g.nums; biases = g.biases; slots = λ k l q. g.slots k l; cells = g.cells }

pub keeps_saved : {K : ℕ → Type 0} {m : Mem} {b : Standing} (j : ℕ) (f : Form) → (K j → ⊥) → Keeps K m b (saved m j f) b
keeps_saved {K} {m} j f n =
    record { arena = grows_none; nums = saved_nums_lem m j f; biases = saved_biases_lem m j f; slots = λ k l q. saved_other m j f k (λ e. n (subst K e q)); cells = refl }

module _ {K : ℕ → Type 0} {m : Mem} {b : Standing} {m' : Mem} {b' : Standing} (g : Keeps K m b m' b') where
  pub whole_kept : Whole m.nums m.biases → Whole m'.nums m'.biases
  whole_kept w = (omega (arith, g.nums, w.0), omega (arith, g.biases, w.1))

  pub stands_kept : {f : Form} {x : Affine} → Stands m b f x → Stands m' b' f x
  stands_kept h = holds_stays g.arena h

  -- a slot stands for what it did
  pub slot_kept : {x : Affine} (k : ℕ) → k < ops_from → K k → Stands m b (loaded m k) x → Stands m' b' (loaded m' k) x
  slot_kept k l q h = rw (g.slots k l q) (stands_kept h)

  pub rows_kept : (from : ℕ) (xs : List Affine) → from + length xs ≤ ops_from → ((k : ℕ) → from ≤ k → k < from + length xs → K k) → Rows m b from xs → Rows m' b' from xs
  rows_kept from [] l q h = tt
  rows_kept from (x ∷ xs) l q h = (
    slot_kept from (omega arith) (q from (omega arith) (omega arith)) h.0,
    rows_kept (suc from) xs (omega arith) (λ k a c. q k (omega arith) (omega arith)) h.1,
  )

  pub falls_kept : (top : ℕ) (xs : List Affine) → top < ops_from → ((k : ℕ) → top < k + length xs → k ≤ top → K k) → Falls m b top xs → Falls m' b' top xs
  falls_kept top [] l q h = tt
  falls_kept top (x ∷ xs) l q h = (
    slot_kept top l (q top (omega arith) (omega arith)) h.0,
    falls_kept (top - 1) xs (omega arith) (λ k a c. q k (omega arith) (omega arith)) h.1,
  )

  pub stack_kept : (base : ℕ) (xs : List Affine) → base + length xs ≤ ops_from → ((k : ℕ) → base ≤ k → k < base + length xs → K k) → StackAt m b base xs → StackAt m' b' base xs
  stack_kept base [] l q h = tt
  stack_kept base (x ∷ xs) l q h = (
    slot_kept (base + length xs) (omega arith) (q (base + length xs) (omega arith) (omega arith)) h.0,
    stack_kept base xs (omega arith) (λ k a c. q k a (omega arith)) h.1,
  )

-- ---- a slot that was saved

module _ (m : Mem) (b : Standing) (j : ℕ) (f : Form) where
  pub ops_saved : {os : List (Op Affine)} → j < ops_from → Ops m b os → Ops (saved m j f) b os
  ops_saved {os} l q =
      record {
        holds = λ t.
            let z = q.holds t in
            record { count = z.count; all = ops_still m b (saved m j f) b os grows_none (λ k a c. saved_other m j f k (λ e. omega arith)) z.all };
      }

  pub slot_saved : {x : Affine} → Whole m.nums m.biases → j < ops_from → Stands m b f x → Stands (saved m j f) b (loaded (saved m j f) j) x
  slot_saved w l h = rw (saved_own m j f w (omega arith)) h

-- ---- one after the other

-- where work begins: the table is whole, there are n cells, and the ops made so far are os
pub record Ready (n : ℕ) (m : Mem) (b : Standing) (os : List (Op Affine)) : Type 0 where
  pub whole : Whole m.nums m.biases
  pub cells : b.cells ≡ n
  pub ops : Ops m b os

pub runs_none : {n : ℕ} {K : ℕ → Type 0} {m : Mem} {b : Standing} {os : List (Op Affine)} → Ready n m b os → Runs K m b m b os 0 0
runs_none r = record { keeps = keeps_none; ops = r.ops; lasts = lasts_kept 0 0 }

pub runs_then : {K : ℕ → Type 0} {m : Mem} {b : Standing} {m' : Mem} {b' : Standing} {m'' : Mem} {b'' : Standing} {os os' : List (Op Affine)} {n k n' k' : ℕ}
    → Runs K m b m' b' os n k → Runs K m' b' m'' b'' os' n' k' → Runs K m b m'' b'' os' (n + n') (k + k')
runs_then r s = record { keeps = keeps_then r.keeps s.keeps; ops = s.ops; lasts = lasts_on r.keeps.arena r.keeps.cells r.lasts s.lasts }

module _ {K : ℕ → Type 0} {m : Mem} {b : Standing} {m' : Mem} {b' : Standing} {os : List (Op Affine)} {need more : ℕ} (r : Runs K m b m' b' os need more) where
  pub runs_less : {K' : ℕ → Type 0} → ((k : ℕ) → K' k → K k) → Runs K' m b m' b' os need more
  runs_less s = record { keeps = keeps_less s r.keeps; ops = r.ops; lasts = r.lasts }

  pub runs_wide : (need' more' : ℕ) → need ≤ need' → more ≤ more' → Runs K m b m' b' os need' more'
  runs_wide need' more' a c = record { keeps = r.keeps; ops = r.ops; lasts = lasts_wide need' more' a c r.lasts }

  -- where the next step begins
  pub ready_after : {n : ℕ} {os₀ : List (Op Affine)} → Ready n m b os₀ → Ready n m' b' os
  ready_after s = record { whole = whole_kept r.keeps s.whole; cells = r.keeps.cells ∙ s.cells; ops = r.ops }

  pub stands_after : {f : Form} {x : Affine} → Stands m b f x → Stands m' b' f x
  stands_after h = stands_kept r.keeps h

-- saving a slot that need not stay
pub saved_runs : {n : ℕ} {K : ℕ → Type 0} {m : Mem} {b : Standing} {os : List (Op Affine)} → Ready n m b os → (j : ℕ) (f : Form) → j < ops_from → (K j → ⊥) → Runs K m b (saved m j f) b os 0 0
saved_runs {m = m} {b = b} r j f l n = record { keeps = keeps_saved j f n; ops = ops_saved m b j f l r.ops; lasts = lasts_kept 0 0 }

-- the slot then stands for what the form does
pub slot_filled : {n : ℕ} {m : Mem} {b : Standing} {os : List (Op Affine)} {f : Form} {x : Affine} → Ready n m b os → (j : ℕ) → j < ops_from → Stands m b f x
    → Stands (saved m j f) b (loaded (saved m j f) j) x
slot_filled {m = m} {b = b} {f = f} r j l h = slot_saved m b j f r.whole l h

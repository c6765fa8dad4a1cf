-- What a node's children are told, of each family, is the construction's `children`.
use Prim.Native.Nat.{ℕ, ◌+◌, ◌-◌, ◌*◌, ◌≤◌}
use native.Mathlib.Omega.{arith}
use mathlib.Core.Path.{◌≡◌, refl, subst}
use mathlib.Core.Bool.{Bool}
use mathlib.Core.List.{List, [], ◌∷◌, ◌++◌}
use lib.ListN.{length}
use Rattle.wire.specs.declared.Form.{Form}
use Rattle.wire.specs.Terms.{Affine}
use Rattle.construct.specs.Builder.{Op}
use Rattle.construct.specs.Lower.{Flat, leaf, fixed, invert, force, ordered, ArbitratedChild, Entry, Many, children}
use Rattle.construct_floats.specs.Floats.{floats}
use Rattle.builder_table.specs.Work.{Standing, Mem}
use Rattle.builder_laws.specs.Table.{Stands}
use Rattle.builder_table.specs.Slots.{reach_from, after_stop_from}
use Rattle.lower_room.proofs.Uses.{kids_of, children_use}
use Rattle.builder_laws.proofs.Running.{Runs, Rows}
use Rattle.builder_laws.proofs.Runs.{Ready, runs_none}
use Rattle.lower_passes.specs.Reach.{Lowered, down, entry_in, kids_in}
use Rattle.lower_ordered_laws.proofs.Orders.{reaches, afters}
use Rattle.lower_ordered_laws.proofs.Passes.{takes, EntriesAt}
use Rattle.lower_ordered_laws.proofs.Kept.{entries_kept}
use Rattle.lower_reach_laws.proofs.Spread.{Told, entry_law, entries_push, spread_law}

-- t entries are put above es, for k children that have rows
pub record KidsRuns (t k rows c need : ℕ) (m : Mem) (b : Standing) (es : List (Entry Affine)) (s : Many Affine (Entry Affine)) (e : Lowered) : Type 0 where
  pub runs : Runs (Told (length es) t) m b e.mem e.down.builder s.ops need (3 * k)
  pub entries : EntriesAt e.mem e.down.builder (s.items ++ es)
  pub depth : e.down.depth ≡ length es + t
  pub row : e.down.row ≡ rows - k
  pub cell : e.down.cell ≡ c

module _ {n : ℕ} {m : Mem} {b : Standing} {os : List (Op Affine)} {f g : Form} {r h : Affine} (z : Ready n m b os) (hr : Stands m b f r) (hh : Stands m b g h) (cursorsAt row c : ℕ) (w : row ≤ 128)
    (es : List (Entry Affine)) (t : EntriesAt m b es) where
  -- no child
  none : KidsRuns 0 0 row c 0 m b es (record { items = []; ops = os }) (record { mem = m; down = down b (length es) row c })
  none = record { runs = runs_none z; entries = t; depth = omega arith; row = omega arith; cell = refl }

  -- a decorator's
  one : length es + 1 ≤ 128
      → KidsRuns 1 0 row c 0 m b es (record { items = record { reached = r; called = h } ∷ []; ops = os }) (record { mem = entry_in m (length es) f g; down = down b (length es + 1) row c })
  one l =
      let e = entry_law z (length es) (omega arith) hr hh in
      record {
        runs = e.runs;
        entries = entries_push e.entry es refl (entries_kept e.runs.keeps es (omega arith) (λ k a d. omega arith) (λ k a d. omega arith) t);
        depth = refl;
        row = omega arith;
        cell = refl;
      }

  -- a composite's, of which there are j
  unfoldable Many-law : (memory on : Bool) (ks : List (ArbitratedChild Affine)) (j : ℕ) → Type 0
  Many-law memory on ks j =
      j ≤ row → length es + j ≤ 128 → Rows m b (reach_from + (row - j)) (reaches ks) → Rows m b (after_stop_from + (row - j)) (afters ks)
      → KidsRuns j j row c (children_use floats n (ordered memory on j) r h ks os) m b es (children floats n cursorsAt (ordered memory on j) r h ks os) (kids_in m (down b (length es) row c) (ordered memory on j) f g)

  many : (memory on : Bool) (ks : List (ArbitratedChild Affine)) → Many-law memory on ks (length ks)
  unfolding Many-law children children_use
  many memory on ks a l p q =
      let s = spread_law cursorsAt (row - length ks) es z hr hh ks (omega arith) l p q t in
      record { runs = s.runs; entries = s.entries; depth = refl; row = refl; cell = refl }

  pub kids_law : (node : Flat) (ks : List (ArbitratedChild Affine)) → length ks ≡ kids_of node → kids_of node ≤ row → length es + takes node ≤ 128
      → Rows m b (reach_from + (row - kids_of node)) (reaches ks) → Rows m b (after_stop_from + (row - kids_of node)) (afters ks)
      → KidsRuns (takes node) (kids_of node) row c (children_use floats n node r h ks os) m b es (children floats n cursorsAt node r h ks os) (kids_in m (down b (length es) row c) node f g)
  unfolding Many-law children children_use
  kids_law leaf ks e a l p q = none
  kids_law (fixed own) ks e a l p q = none
  kids_law invert ks e a l p q = one l
  kids_law (force own) ks e a l p q = one l
  kids_law (ordered memory on k) ks e a l p q = subst (λ (j : ℕ). Many-law memory on ks j) e (many memory on ks) a l p q

-- The circuit of a tree means the walk.
use Prim.Native.Nat.{◌*◌, ◌+◌, ℕ}
use native.Mathlib.Omega.{arith}
use mathlib.Core.List.{List, [], ◌∷◌}
use mathlib.Core.Path.{◌∙◌, ◌≡◌}
use lib.ListN.{length}
use Rattle.construct.proofs.ListWalk.{next_f}
use Rattle.construct.proofs.Reach.{OutIs}
use Rattle.construct.proofs.Right.{Holds, Right}
use Rattle.construct.proofs.Table.{table_right}
use Rattle.construct.specs.Circuit.{build, construct, flats, inputs, outputs_of}
use Rattle.construct.specs.Lower.{Flat, flags}
use Rattle.construct.specs.Pairs.{Form, NodeReach, pairs}
use Rattle.construct.specs.Value.{Bit, Val, cell, table_of}
use Rattle.construct_means.proofs.Same.{flats_are, outs_of, state_of, walk_same}
use Rattle.construct_means.proofs.Sizes.{sizes}
use Rattle.construct_means.specs.Means.{Loaded, Means, OutputIs, Shaped, circuit_of, cursors_of}
use Rattle.tree.specs.Forest.{Forest, counts, preorder, width}
use Rattle.walk.specs.Kind.{kind_of}
use Rattle.lists.specs.Every.{All2, both, none}
use Rattle.walk.specs.Walk.{Fate, fates_of}

-- outputs from the passes' results
outputs_are : (ρ : ℕ → ℕ) {xs : List NodeReach} {fs : List Form} (ys : List Fate) → All2 (OutIs ρ) xs (outs_of ys) → All2 (λ f y. Bit ρ f (next_f y)) fs (outs_of ys)
    → All2 (OutputIs ρ) (outputs_of xs fs) ys
unfolding outs_of
outputs_are ρ [] none none = none
outputs_are ρ (y ∷ ys) (both h hs) (both k ks) = both (record { status = h.raw; reached = h.reached; halted = h.halted; running = k }) (outputs_are ρ ys hs ks)

-- THE LAW: whatever the state and the row, the table that the circuit makes of their cells holds the walk
module _ (f : Forest ℕ) (shaped : Shaped kind_of f) (tree : width f ≡ 1) (flags cursors row ins : List ℕ) (loaded : Loaded f flags cursors row ins) where
  abbrev ns : List Flat
  ns = flats (preorder f) (counts f)

  pub holds : Holds ns (cell ins) (state_of flags cursors row)
  holds = record {
    flag = λ i l. loaded.flag i (omega (arith, l, (sizes f).nodes));
    cursor = λ c l. (λ j. cell ins ((sizes f).nodes j + c)) ∙ loaded.cursor c (omega (arith, l, (sizes f).cells));
    leaf_s = λ s l. (λ j. cell ins ((sizes f).nodes j + (sizes f).cells j + 3 * s)) ∙ loaded.success s (omega (arith, l, (sizes f).slots));
    leaf_f = λ s l. (λ j. cell ins ((sizes f).nodes j + (sizes f).cells j + 3 * s + 1)) ∙ loaded.failure s (omega (arith, l, (sizes f).slots));
    leaf_r = λ s l. (λ j. cell ins ((sizes f).nodes j + (sizes f).cells j + 3 * s + 2)) ∙ loaded.running s (omega (arith, l, (sizes f).slots));
  }

  pub loaded_long : length ins ≡ inputs ns
  loaded_long = loaded.long ∙ omega (arith, (sizes f).nodes, (sizes f).cells, (sizes f).slots)

  -- the passes' results
  right : Right ns (cell (table_of ins (circuit_of f).ops)) (state_of flags cursors row)
  right = table_right ns ins (state_of flags cursors row) loaded_long holds

  pub cursors_right : All2 (Val (cell (table_of ins (circuit_of f).ops))) (build pairs ns).pass.cursors (cursors_of (fates_of f flags cursors row))
  cursors_right = rw (rw (← flats_are f) at (walk_same f shaped tree flags cursors row)).1 at right.pass.cursors

  pub circuit_means : Means f flags cursors row (table_of ins (circuit_of f).ops)
  unfolding construct
  circuit_means =
      let w = rw (← flats_are f) at (walk_same f shaped tree flags cursors row) in
      record {
        outputs = outputs_are _ (fates_of f flags cursors row) (rw w.0 at right.pass.outs) (rw w.0 at right.running);
        resumes = cursors_right;
      }

-- Ops, terms and arena room of the circuit of a tree.
use Prim.Native.Nat.{◌*◌, ◌+◌, ◌-◌, ◌≤◌, ℕ}
use native.Mathlib.Nat.{mul-le-mul_left}
use native.Mathlib.Omega.{arith}
use mathlib.Core.List.{List, [], ◌++◌, ◌∷◌, reverse, reverse_aux}
use mathlib.Core.Path.{◌≡◌, refl}
use lib.ListN.{length, length-reverse}
use Rattle.construct.specs.Circuit.{build, construct, flats, op_count, op_forms, output_forms, outputs_of, term_count, terms_in}
use Rattle.construct.specs.Lower.{Flat}
use Rattle.construct.specs.Pairs.{Form, NodeReach, Op, pairs}
use Rattle.lower_room.proofs.Ops.{op_bound, op_room}
use Rattle.lower_room.proofs.Room.{arena_bound}
use Rattle.lower_room.proofs.Terms.{op_terms}
use Rattle.lower_room.proofs.Total.{circuit_terms, form_terms, out_terms, term_bound}
use Rattle.construct_means.proofs.Sizes.{sizes}
use Rattle.construct_means.specs.Means.{circuit_of}
use Rattle.tree.specs.Forest.{Forest, counts, preorder, size}
use Rattle.lower_room.proofs.Uses.{arena_use}
use Rattle.walk.specs.Walk.{cells_in}

-- the circuit's terms are those that the passes leave
ops_onto : (os ps : List Op) → terms_in pairs (op_forms (reverse_aux os ps)) ≡ op_terms os + terms_in pairs (op_forms ps)
unfolding terms_in op_forms op_terms
ops_onto [] ps = omega arith
ops_onto (o ∷ os) ps = omega (arith, ops_onto os (o ∷ ps))

terms_append : (fs gs : List Form) → terms_in pairs (fs ++ gs) ≡ terms_in pairs fs + terms_in pairs gs
unfolding terms_in
terms_append [] gs = omega arith
terms_append (f ∷ fs) gs = omega (arith, terms_append fs gs)

outputs_terms : (xs : List NodeReach) (fs : List Form) → terms_in pairs (output_forms (outputs_of xs fs)) ≤ out_terms xs + form_terms fs
unfolding terms_in output_forms out_terms form_terms
outputs_terms [] fs = omega arith
outputs_terms (x ∷ xs) [] = omega arith
outputs_terms (x ∷ xs) (f ∷ fs) = omega (arith, outputs_terms xs fs)

forms_terms : (fs : List Form) → terms_in pairs fs ≡ form_terms fs
unfolding terms_in form_terms
forms_terms [] = refl
forms_terms (f ∷ fs) = omega (arith, forms_terms fs)

all_terms : (ns : List Flat) → term_count pairs (construct pairs ns) ≤ circuit_terms (build pairs ns)
unfolding construct circuit_terms terms_in op_forms
all_terms ns =
    let b = build pairs ns in
    let xs = output_forms (outputs_of b.pass.outs b.running.items) in
    omega (
      arith,
      terms_append (op_forms (reverse b.running.ops)) (xs ++ b.pass.cursors),
      terms_append xs b.pass.cursors,
      ops_onto b.running.ops [],
      outputs_terms b.pass.outs b.running.items,
      forms_terms b.pass.cursors,
    )

-- THE LAWS, for the circuit of a tree of N nodes and C cursors
module _ (f : Forest ℕ) where
  abbrev ns : List Flat
  ns = flats (preorder f) (counts f)

  op_length : op_count (circuit_of f) ≡ length (build pairs ns).running.ops
  unfolding construct
  op_length = length-reverse (build pairs ns).running.ops

  pub ops_most_lem : 1 ≤ size f → op_count (circuit_of f) ≤ 15 * (size f - 1) + 2 * cells_in f
  ops_most_lem some = omega (arith, op_length, op_bound ns (omega (arith, (sizes f).nodes)), (sizes f).nodes, (sizes f).cells)

  -- with at most 128 nodes
  pub ops_slots : 1 ≤ size f → size f ≤ 128 → op_count (circuit_of f) ≤ 2163
  ops_slots some few = omega (arith, op_length, op_room ns (omega (arith, (sizes f).nodes)) (omega (arith, (sizes f).nodes)))

  pub terms_most : term_count pairs (circuit_of f) ≤ 31 * (size f * size f)
  terms_most = rw (← (sizes f).nodes) (omega (arith, all_terms ns, term_bound ns))

  pub arena_most : arena_use pairs ns ≤ 15 * (size f * size f) + 34 * size f
  arena_most = rw (← (sizes f).nodes) (arena_bound ns)

  -- with at most 128 nodes
  pub arena_room : size f ≤ 128 → arena_use pairs ns ≤ 262144
  arena_room few = omega (arith, arena_most, mul-le-mul_left (size f) few)

-- The circuit, evaluated on cells that hold a state, is the walk over its nodes.
use Prim.Native.Nat.{◌*◌, ◌+◌, ◌<◌, suc, ℕ}
use native.Mathlib.Omega.{arith}
use mathlib.Core.Bool.{Bool, false, true}
use mathlib.Core.List.{List, [], ◌∷◌}
use mathlib.Core.Path.{◌∙◌, ◌≡◌, ap, refl}
use lib.ListN.{length}
use Rattle.construct.proofs.Arbitrate.{Cells, UpIs, up_is}
use Rattle.construct.proofs.Builds.{Grows, Sat, back, more, same}
use Rattle.construct.proofs.ListWalk.{Lots, Would, lots, next_f, would_step, woulds}
use Rattle.construct.proofs.Reach.{DownIs, EntryIs, down_grows, down_is, ends, flags_are, flags_grows}
use Rattle.construct.proofs.Scope.{eval, eval_input, eval_stays}
use Rattle.construct.proofs.Values.{constant_val, wire_val}
use Rattle.construct.specs.Circuit.{build, cell_end, cells_n, cells_nc, inputs, root, slot_end}
use Rattle.construct.specs.Lower.{Flat, cell_after, down, fixed, force, invert, leaf, leaf_t, ordered, slot_after, up}
use Rattle.construct.specs.Pairs.{Op, pairs}
use Rattle.construct.specs.Value.{Bit, BitsAre}
use Rattle.walk.specs.Kind.{bit}
use Rattle.lists.specs.Every.{All2, both, none}
use Rattle.walk.specs.Status.{Status, is_failure, is_running_status, is_success}

-- an input state, and the cells that hold it
pub record State : Type 0 where
  pub flag : ℕ → Bool
  pub cursor : ℕ → ℕ
  pub leafs : ℕ → Status

pub record Holds (ns : List Flat) (ι : ℕ → ℕ) (x : State) : Type 0 where
  pub flag : (i : ℕ) → i < length ns → ι i ≡ bit (x.flag i)
  pub cursor : (c : ℕ) → c < cell_end 0 ns → ι (length ns + c) ≡ x.cursor c
  pub leaf_s : (s : ℕ) → s < slot_end 0 ns → ι (cells_nc ns + 3 * s) ≡ bit (is_success (x.leafs s))
  pub leaf_f : (s : ℕ) → s < slot_end 0 ns → ι (cells_nc ns + 3 * s + 1) ≡ bit (is_failure (x.leafs s))
  pub leaf_r : (s : ℕ) → s < slot_end 0 ns → ι (cells_nc ns + 3 * s + 2) ≡ bit (is_running_status (x.leafs s))

-- the walk
unfoldable pub list_walk : List Flat → State → Lots
list_walk ns x = lots x.flag x.cursor 0 0 (woulds x.leafs x.cursor 0 0 ns).sems (record { ticked = true; called = false } ∷ [])

module _ (leafs : ℕ → Status) (cu : ℕ → ℕ) where
  one_sem : (n : Flat) (s c k : ℕ) (u : Would) → (length (would_step leafs cu n s c u).sems ≡ suc (length u.sems)) × (ends k (would_step leafs cu n s c u).sems ≡ ends (cell_after n k) u.sems)
  unfolding would_step ends
  one_sem leaf s c k u = (refl, refl)
  one_sem (fixed b) s c k u = (refl, refl)
  one_sem invert s c k u = (refl, refl)
  one_sem (force b) s c k u = (refl, refl)
  one_sem (ordered m q n) s c k u = (refl, refl)

  pub would_nodes : (s c k : ℕ) (ns : List Flat) → (length (woulds leafs cu s c ns).sems ≡ length ns) × (ends k (woulds leafs cu s c ns).sems ≡ cell_end k ns)
  unfolding woulds ends cell_end
  would_nodes s c k [] = (refl, refl)
  would_nodes s c k (n ∷ ns) =
      let u = woulds leafs cu (slot_after n s) (cell_after n c) ns in
      let o = one_sem n s c k u in
      let r = would_nodes (slot_after n s) (cell_after n c) (cell_after n k) ns in
      (o.0 ∙ ap suc r.0, o.1 ∙ r.1)

grows_all : (os : List Op) → Grows [] os
grows_all [] = same
grows_all (o ∷ os) = more (grows_all os)

module _ (ns : List Flat) where
  pub record Right (ρ : ℕ → ℕ) (x : State) : Type 0 where
    pub pass : DownIs ρ (build pairs ns).pass (list_walk ns x)
    pub running : All2 (λ f y. Bit ρ f (next_f y)) (build pairs ns).running.items (list_walk ns x).outs

  pub leaf_held : (ρ : ℕ → ℕ) (x : State) → Holds ns ρ x → (s : ℕ) → s < slot_end 0 ns → BitsAre ρ (leaf_t pairs (inputs ns) (cells_n ns) (cells_nc ns) s) (x.leafs s)
  leaf_held ρ x h s l = record {
    is_s = rw (h.leaf_s s l) at (wire_val ρ (cells_nc ns + 3 * s));
    is_f = rw (h.leaf_f s l) at (wire_val ρ (cells_nc ns + 3 * s + 1));
    is_r = rw (h.leaf_r s l) at (wire_val ρ (cells_nc ns + 3 * s + 2));
  }

  -- any table that holds the state in its cells and satisfies every op holds the walk in the outputs
  pub sat_right : (ρ : ℕ → ℕ) (x : State) → Holds ns ρ x → Sat (inputs ns) ρ (build pairs ns).running.ops → Right ρ x
  unfolding build list_walk
  sat_right ρ x h s =
      let opsAt = inputs ns in
      let cursorsAt = cells_n ns in
      let u = up pairs opsAt cursorsAt (cells_nc ns) 0 0 ns in
      let d = down pairs opsAt cursorsAt 0 0 u.arbitrations (root pairs ∷ []) u.ops in
      let s₂ : Sat opsAt ρ d.ops = back opsAt ρ (flags_grows opsAt cursorsAt d.outs d.ops) s in
      let s₁ : Sat opsAt ρ u.ops = back opsAt ρ (down_grows opsAt cursorsAt 0 0 u.arbitrations (root pairs ∷ []) u.ops) s₂ in
      let cs : Cells ρ opsAt cursorsAt (cells_nc ns) x.leafs x.cursor (cell_end 0 ns) (slot_end 0 ns) = record { leaf = leaf_held ρ x h; cursor = h.cursor } in
      let hu : UpIs ρ u (woulds x.leafs x.cursor 0 0 ns) = up_is ρ opsAt cursorsAt (cells_nc ns) x.leafs x.cursor (cell_end 0 ns) (slot_end 0 ns) cs 0 0 ns (omega arith) (omega arith) s₁ in
      let k = would_nodes x.leafs x.cursor 0 0 0 ns in
      let hr : EntryIs ρ (root pairs) (record { ticked = true; called = false }) = record { reached = constant_val ρ 1; called = constant_val ρ 0 } in
      let hd = down_is opsAt cursorsAt ρ x.flag x.cursor (length ns) (cell_end 0 ns) h.flag h.cursor 0 0 u.ops (omega (arith, k.0)) (omega (arith, k.1)) hu.arbitrations (both hr none) s₂ in
      record { pass = hd; running = flags_are opsAt cursorsAt ρ d.ops hd.outs s }

  pub eval_holds : (ι : ℕ → ℕ) (x : State) → Holds ns ι x → Holds ns (eval (inputs ns) ι (build pairs ns).running.ops) x
  eval_holds ι x h = record {
    flag = λ i l. old i (omega arith) ∙ h.flag i l;
    cursor = λ c l. old (length ns + c) (omega arith) ∙ h.cursor c l;
    leaf_s = λ s l. old (cells_nc ns + 3 * s) (omega arith) ∙ h.leaf_s s l;
    leaf_f = λ s l. old (cells_nc ns + 3 * s + 1) (omega arith) ∙ h.leaf_f s l;
    leaf_r = λ s l. old (cells_nc ns + 3 * s + 2) (omega arith) ∙ h.leaf_r s l;
  }
    where
      old : (w : ℕ) → w < inputs ns → eval (inputs ns) ι (build pairs ns).running.ops w ≡ ι w
      old w l = eval_stays (inputs ns) ι (grows_all (build pairs ns).running.ops) w (omega arith) ∙ eval_input (inputs ns) ι w

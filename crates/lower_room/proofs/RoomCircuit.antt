-- Building takes as much room over an algebra that respects small forms as over forms with whole coefficients, for at most 128 nodes.
--
use Prim.Native.Nat.{◌*◌, ◌+◌, ◌≤◌, suc, ℕ}
use native.Mathlib.Omega.{arith}
use mathlib.Core.Bool.{true}
use mathlib.Core.List.{List, [], ◌++◌, ◌∷◌, map}
use mathlib.Core.Path.{◌∙◌, ◌≡◌, refl}
use lib.ListN.{drop, length}
use Rattle.construct.specs.Builder.{and, not', or}
use Rattle.construct.specs.Circuit.{cells_n, cells_nc, inputs, root}
use Rattle.construct.specs.Forms.{Forms}
use Rattle.construct.specs.Lower.{Flat, cell_after, children, cursor_f, down, fixed, fixed_t, force, invert, leaf, lost, next_cur, ordered, slot_after, top, up}
use Rattle.construct.specs.Pairs.{Entry, Form, Arbitration, ArbitratedChild, NodeReach, Op, Up, len, pairs, wire'}
use Rattle.construct.specs.Builder as B
use Rattle.construct.specs.Lower as L
use Rattle.construct_instances.proofs.Circuit.{all_ready, d, falls, root_fits, root_is, u}
use Rattle.construct_instances.proofs.Down.{EntryFit, OutFit, children_of, cursor_of, keep, of_entry, of_out, tell, top_sim, turn}
use Rattle.construct_instances.proofs.Fits.{Fit}
use Rattle.construct_instances.proofs.Turns.{of_arbitrated_child, of_ops}
use Rattle.construct_instances.proofs.Up.{ArbitrationFit, Ready, Stacked, cursor_fit, cursor_is, of_arbitration, of_up, take_is, taken, top_is, up_fit, up_is}
use Rattle.construct_instances.proofs.Respects.{Respects, of_status}
use Rattle.lower_room.proofs.Arbitration.{lower_room}
use Rattle.lower_room.proofs.Uses.{arena_use, children_use, cur_use, down_use, flags_use, lower_use, spread_use, step_use, up_use}
use Rattle.lists.specs.Every.{All}

module _ {F : Type 0} (A : Forms F) (of : Form → F) (same : Respects A of) where
  terms : (f : Form) → A.terms (of f) ≡ len f
  terms = same.terms_same

  -- ---- arbitrating

  module _ (opsAt cursorsAt leaves_at : ℕ) where
    step_room : (n : Flat) (s c : ℕ) (v : Up) → Stacked v.stack → step_use A opsAt cursorsAt leaves_at n s c (of_up A of same v) ≡ step_use pairs opsAt cursorsAt leaves_at n s c v
    unfolding step_use
    step_room leaf s c v h = refl
    step_room (fixed b) s c v h = refl
    step_room invert s c v h = refl
    step_room (force b) s c v h =
        let t = top (fixed_t pairs true) v.stack in
        let e = top_is A of same v.stack in
        (λ i. A.terms (e i).success + A.terms (e i).failure) ∙ (λ i. terms t.success i + terms t.failure i)
    step_room (ordered m q n) s c v h =
        let k = taken n h.fit in
        let f = cursor_f pairs opsAt cursorsAt leaves_at m c in
        (λ i. A.terms (cursor_is A of same opsAt cursorsAt leaves_at m c i) + lower_use A opsAt q (cursor_is A of same opsAt cursorsAt leaves_at m c i) (take_is A of same (of_status of) n v.stack i) (of_ops A of same v.ops))
        ∙ (λ i. terms f i + lower_room A of same opsAt q f v.ops (cursor_fit A of same opsAt cursorsAt leaves_at m c) (omega (arith, k.fewer, h.few)) (omega (arith, k.lighter, h.light)) k.fit i)

    up_room : (s c : ℕ) (ns : List Flat) → Ready opsAt cursorsAt leaves_at s c ns → up_use A opsAt cursorsAt leaves_at s c ns ≡ up_use pairs opsAt cursorsAt leaves_at s c ns
    unfolding up_use
    up_room s c [] h = refl
    up_room s c (n ∷ ns) h =
        let s₁ = slot_after n s in
        let c₁ = cell_after n c in
        let v = up pairs opsAt cursorsAt leaves_at s₁ c₁ ns in
        (λ i. step_use A opsAt cursorsAt leaves_at n s c (up_is A of same opsAt cursorsAt leaves_at s₁ c₁ ns h.1 i) + up_use A opsAt cursorsAt leaves_at s₁ c₁ ns)
        ∙ (λ i. step_room n s c v h.0 i + up_room s₁ c₁ ns h.1 i)

  -- ---- reach

  module _ (opsAt cursorsAt : ℕ) where
    spread_room : (r h : Form) (xs : List ArbitratedChild) (os : List Op) → Fit 40000 r → Fit 1 h → All (λ (k : ArbitratedChild). Fit 32768 k.reach × Fit 32768 k.after_stop) xs
        → spread_use A opsAt (of r) (of h) (map (of_arbitrated_child A of same) xs) (of_ops A of same os) ≡ spread_use pairs opsAt r h xs os
    unfolding spread_use
    spread_room r h [] os fr fh ks = refl
    spread_room r h (x ∷ xs) os fr fh ks =
        let o₁ = and pairs opsAt r x.reach os in
        let o₂ = and pairs opsAt r x.after_stop o₁.ops in
        let o₃ = or pairs opsAt h o₂.form o₂.ops in
        let t = tell A of same opsAt cursorsAt r h x os fr fh ks.0.0 ks.0.1 in
        let i = spread_room r h xs o₃.ops fr fh ks.1 in
        (λ j. 2 + (2 * (A.terms (of h) + A.terms (t.after_stop j).form) + 3) + spread_use A opsAt (of r) (of h) (map (of_arbitrated_child A of same) xs) (or A opsAt (of h) (t.after_stop j).form (t.after_stop j).ops).ops)
        ∙ (λ j. 2 + (2 * (terms h j + terms o₂.form j) + 3) + spread_use A opsAt (of r) (of h) (map (of_arbitrated_child A of same) xs) (t.called j).ops)
        ∙ (λ j. 2 + (2 * (len h + len o₂.form) + 3) + i j)

    children_room : (n : Flat) (r h : Form) (xs : List ArbitratedChild) (os : List Op) → Fit 40000 r → Fit 1 h → All (λ (k : ArbitratedChild). Fit 32768 k.reach × Fit 32768 k.after_stop) xs
        → children_use A opsAt n (of r) (of h) (map (of_arbitrated_child A of same) xs) (of_ops A of same os) ≡ children_use pairs opsAt n r h xs os
    unfolding children_use
    children_room leaf r h xs os fr fh ks = refl
    children_room (fixed b) r h xs os fr fh ks = refl
    children_room invert r h xs os fr fh ks = refl
    children_room (force b) r h xs os fr fh ks = refl
    children_room (ordered m q n) r h xs os fr fh ks = spread_room r h xs os fr fh ks

    -- down_use from each result on
    abbrev told : ℕ → ℕ → Arbitration → List Arbitration → F → F → ℕ → List (L.Entry F) → List (B.Op F) → ℕ
    told i c x xs r h u st os = 3 + A.terms r + A.terms h + cur_use A opsAt x.node + u + down_use A opsAt cursorsAt (suc i) (cell_after x.node c) (map (of_arbitration A of same) xs) st os

    abbrev kept : ℕ → ℕ → Arbitration → List Arbitration → List (L.Entry F) → F → F → L.Many F F → ℕ
    kept i c x xs st r h k =
        let s = children A opsAt cursorsAt x.node r h (map (of_arbitrated_child A of same) x.kids) k.ops in
        told i c x xs r h (children_use A opsAt x.node r h (map (of_arbitrated_child A of same) x.kids) k.ops) (s.items ++ drop 1 st) s.ops

    abbrev touched : ℕ → ℕ → Arbitration → List Arbitration → List (L.Entry F) → F → F → B.Out F → ℕ
    touched i c x xs st r h v = kept i c x xs st r h (next_cur A opsAt cursorsAt x.node c r v.form (of x.cursor) v.ops)

    abbrev after : ℕ → ℕ → Arbitration → List Arbitration → List (L.Entry F) → L.Entry F → B.Out F → ℕ
    after i c x xs st e h = touched i c x xs st e.reached h.form (and A opsAt (not' A e.reached) (not' A h.form) h.ops)

    down_room : (i c : ℕ) (xs : List Arbitration) (st : List Entry) (os : List Op) → All ArbitrationFit xs → All EntryFit st
        → down_use A opsAt cursorsAt i c (map (of_arbitration A of same) xs) (map (of_entry A of same) st) (of_ops A of same os) ≡ down_use pairs opsAt cursorsAt i c xs st os
    unfolding down_use
    down_room i c [] st os fx fs = refl
    down_room i c (x ∷ xs) st os fx fs =
        let e = top (lost pairs opsAt cursorsAt) st in
        let r = e.reached in
        let h = and pairs opsAt e.called (wire' i) os in
        let k = cursor_of A of same opsAt cursorsAt i c x st os in
        let s = children_of A of same opsAt cursorsAt i c x st os in
        let et = top_sim A of same opsAt cursorsAt st in
        let t = turn A of same opsAt cursorsAt i c x st os fx.0 fs in
        let v = children_room x.node r h.form x.kids k.ops t.entry.reached t.halt_fits fx.0.kids in
        let w = children_use pairs opsAt x.node r h.form x.kids k.ops in
        let images = map (of_entry A of same) st in
        let rest = down_room (suc i) (cell_after x.node c) xs (s.items ++ drop 1 st) s.ops fx.1 t.later_fit in
        (λ j. after i c x xs images (et j) (and A opsAt (et j).called (A.wire i) (of_ops A of same os)))
        ∙ (λ j. after i c x xs images (of_entry A of same e) (t.halts j))
        ∙ (λ j. touched i c x xs images (of r) (of h.form) (t.untouched j))
        ∙ (λ j. kept i c x xs images (of r) (of h.form) (t.cursor j))
        ∙ (λ j. told i c x xs (of r) (of h.form) (v j) ((t.kids.is j).items ++ drop 1 images) (t.kids.is j).ops)
        ∙ (λ j. told i c x xs (of r) (of h.form) w (t.later j) (of_ops A of same s.ops))
        ∙ (λ j. 3 + terms r j + terms h.form j + cur_use A opsAt x.node + w + rest j)

    flags_room : (xs : List NodeReach) (os : List Op) → All OutFit xs → flags_use A opsAt (map (of_out A of same) xs) (of_ops A of same os) ≡ flags_use pairs opsAt xs os
    unfolding flags_use
    flags_room [] os h = refl
    flags_room (x ∷ xs) os h =
        let a = and pairs opsAt x.reached x.raw.running os in
        let b = and pairs opsAt x.untouched x.was a.ops in
        let k = keep A of same opsAt cursorsAt x os h.0 in
        let r = flags_room xs b.ops h.1 in
        (λ i. 3 + (A.terms (k.run i).form + A.terms (k.stay i).form) + flags_use A opsAt (map (of_out A of same) xs) (k.stay i).ops)
        ∙ (λ i. 3 + (terms a.form i + terms b.form i) + r i)

-- ---- the whole

module _ {F : Type 0} (A : Forms F) (of : Form → F) (same : Respects A of) (ns : List Flat) (few : length ns ≤ 128) where
  flagged : ℕ → ℕ → L.Down F → ℕ
  flagged a b x = a + b + flags_use A (inputs ns) x.outs x.ops

  -- THE LAW
  pub same_room : arena_use A ns ≡ arena_use pairs ns
  unfolding arena_use flagged
  same_room =
      let opsAt = inputs ns in
      let cursorsAt = cells_n ns in
      let leaves_at = cells_nc ns in
      let v = u A of same ns few in
      let x = d A of same ns few in
      let ready = all_ready A of same ns few in
      let fit = up_fit A of same opsAt cursorsAt leaves_at 0 0 ns ready in
      let f = falls A of same ns few in
      let e = down_room A of same opsAt cursorsAt 0 0 v.arbitrations (root pairs ∷ []) v.ops fit (root_fits A of same ns few) in
      let g = flags_room A of same opsAt cursorsAt x.outs x.ops f.fit in
      (λ i. let y = up_is A of same opsAt cursorsAt leaves_at 0 0 ns ready i in
      let st = root_is A of same ns few i ∷ [] in
      flagged (up_room A of same opsAt cursorsAt leaves_at 0 0 ns ready i) (down_use A opsAt cursorsAt 0 0 y.arbitrations st y.ops) (down A opsAt cursorsAt 0 0 y.arbitrations st y.ops))
      ∙ (λ i. flagged (up_use pairs opsAt cursorsAt leaves_at 0 0 ns) (e i) (f.is i))
      ∙ (λ i. up_use pairs opsAt cursorsAt leaves_at 0 0 ns + down_use pairs opsAt cursorsAt 0 0 v.arbitrations (root pairs ∷ []) v.ops + g i)

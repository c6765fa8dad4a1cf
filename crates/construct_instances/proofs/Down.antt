-- The top-down pass over an algebra that respects small forms: what it adds stays small whatever the depth.
use Prim.Native.Nat.{◌+◌, suc, ℕ}
use native.Mathlib.Omega.{arith}
use mathlib.Core.Bool.{false, true}
use mathlib.Core.List.{List, [], ◌++◌, ◌∷◌}
use mathlib.Core.Path.{◌∙◌, ◌≡◌, ap, refl}
use lib.ListN.{drop, length}
use Rattle.construct.proofs.Builds.{wire_open}
use Rattle.construct.specs.Builder.{and, and_at, not', or, push}
use Rattle.construct.specs.Forms.{Forms, Known, No, Open, Yes}
use Rattle.construct.specs.Lower.{Flat, cell_after, children, down, fixed, flags, force, invert, leaf, lost, next_cur, ordered, spread, top}
use Rattle.construct.specs.Pairs.{Down, Entry, Form, Arbitration, ArbitratedChild, Many, NodeReach, Op, Out, constant, known, pairs, wire'}
use Rattle.construct_instances.proofs.Fits.{Fit, and_fit, constant_fit, fit_up, not_fit, or_fit, wire_fit}
use Rattle.construct_instances.proofs.Turns.{of_arbitrated_child, of_many, of_ops}
use Rattle.construct_instances.proofs.Steps.{and_sim, most, not_sim, or_sim, out, plus_sim, push_sim}
use Rattle.construct_instances.proofs.Up.{ArbitrationFit, drop_is, of_arbitration}
use Rattle.construct_instances.proofs.Respects.{Respects, of_status}
use Rattle.lists.proofs.Every.{all_append, all_drop}
use Rattle.lists.specs.Every.{All}
use Rattle.construct.specs.Builder as B
use Rattle.construct.specs.Lower as L
use mathlib.Core.List.{map}

module _ {F : Type 0} (A : Forms F) (of : Form → F) (same : Respects A of) where
  abbrev pub of_entry : Entry → L.Entry F
  of_entry e = record { reached = of e.reached; called = of e.called }

  abbrev pub of_out : NodeReach → L.NodeReach F
  of_out x = record { raw = of_status of x.raw; reached = of x.reached; halted = of x.halted; was = of x.was; untouched = of x.untouched }

  abbrev pub of_down : Down → L.Down F
  of_down d = record { outs = map of_out d.outs; cursors = map of d.cursors; ops = of_ops A of same d.ops }

pub record EntryFit (e : Entry) : Type 0 where
  pub reached : Fit 40000 e.reached
  pub called : Fit 40002 e.called

pub record OutFit (x : NodeReach) : Type 0 where
  pub reached : Fit 40000 x.reached
  pub run : Fit 32769 x.raw.running
  pub was : Fit 1 x.was
  pub untouched : Fit 40001 x.untouched

-- halted: the flag's wire, a wire of its own, or 0
module _ (opsAt : ℕ) where
  push_fit : (f g : Form) (os : List Op) → Fit 4194304 (push pairs opsAt f g os).form
  unfolding push
  push_fit f g os = fit_up 1 4194304 (wire' (opsAt + length os)) (wire_fit (opsAt + length os)) (omega arith)

  halt_at_lem : (t : Known) (f : Form) (i : ℕ) (os : List Op) → Fit 1 (and_at pairs opsAt t Open f (wire' i) os).form
  unfolding and_at push
  halt_at_lem Yes f i os = wire_fit i
  halt_at_lem No f i os = fit_up 0 1 (constant 0) (constant_fit 0) (omega arith)
  halt_at_lem Open f i os = wire_fit (opsAt + length os)

  halt_fit : (f : Form) (i : ℕ) (os : List Op) → Fit 1 (and pairs opsAt f (wire' i) os).form
  unfolding and
  halt_fit f i os = rw (wire_open i) (halt_at_lem (known f) f i os)

map-append : {X Y : Type 0} (image : X → Y) (xs ys : List X) → map image xs ++ map image ys ≡ map image (xs ++ ys)
map-append image [] ys = refl
map-append {X} {Y} image (x ∷ xs) ys = ap (λ (l : List Y). image x ∷ l) (map-append image xs ys)

module _ {F : Type 0} (A : Forms F) (of : Form → F) (same : Respects A of) (opsAt cursorsAt : ℕ) where
  -- reach from each result on
  abbrev joined : ℕ → Arbitration → F → F → F → List F → L.Down F → L.Down F
  joined i x r h u ks rest =
      record { outs = record { raw = of_status of x.raw; reached = r; halted = h; was = A.wire i; untouched = u } ∷ rest.outs; cursors = ks ++ rest.cursors; ops = rest.ops }

  abbrev told : ℕ → ℕ → Arbitration → List Arbitration → List (L.Entry F) → F → F → F → List F → L.Many F (L.Entry F) → L.Down F
  told i c x xs st r h u ks s = joined i x r h u ks (down A opsAt cursorsAt (suc i) (cell_after x.node c) (map (of_arbitration A of same) xs) (s.items ++ st) s.ops)

  abbrev kept : ℕ → ℕ → Arbitration → List Arbitration → List (L.Entry F) → F → F → F → L.Many F F → L.Down F
  kept i c x xs st r h u k = told i c x xs (drop 1 st) r h u k.items (children A opsAt cursorsAt x.node r h (map (of_arbitrated_child A of same) x.kids) k.ops)

  abbrev touched : ℕ → ℕ → Arbitration → List Arbitration → List (L.Entry F) → F → F → B.Out F → L.Down F
  touched i c x xs st r h u = kept i c x xs st r h u.form (next_cur A opsAt cursorsAt x.node c r u.form (of x.cursor) u.ops)

  abbrev after : ℕ → ℕ → Arbitration → List Arbitration → List (L.Entry F) → L.Entry F → B.Out F → L.Down F
  after i c x xs st e h = touched i c x xs st e.reached h.form (and A opsAt (not' A e.reached) (not' A h.form) h.ops)

  pub record Spreads (a : L.Many F (L.Entry F)) (m : Many Entry) : Type 0 where
    pub is : a ≡ of_many A of same (of_entry A of same) m
    pub fit : All EntryFit m.items

  -- a child's turn
  pub record Tell (r h : Form) (x : ArbitratedChild) (os : List Op) : Type 0 where
    pub reached : and A opsAt (of r) (of x.reach) (of_ops A of same os) ≡ out A of same (and pairs opsAt r x.reach os)
    pub after_stop : let o₁ = and pairs opsAt r x.reach os in
        and A opsAt (of r) (of x.after_stop) (and A opsAt (of r) (of x.reach) (of_ops A of same os)).ops ≡ out A of same (and pairs opsAt r x.after_stop o₁.ops)
    pub called : let o₂ = and pairs opsAt r x.after_stop (and pairs opsAt r x.reach os).ops in
        or A opsAt (of h) (of o₂.form) (of_ops A of same o₂.ops) ≡ out A of same (or pairs opsAt h o₂.form o₂.ops)
    pub reached_fit : Fit 40000 (and pairs opsAt r x.reach os).form
    pub after_fit : Fit 40000 (and pairs opsAt r x.after_stop (and pairs opsAt r x.reach os).ops).form

  pub tell : (r h : Form) (x : ArbitratedChild) (os : List Op) → Fit 40000 r → Fit 1 h → Fit 32768 x.reach → Fit 32768 x.after_stop → Tell r h x os
  tell r h x os fr fh k k' =
      let o₁ = and pairs opsAt r x.reach os in
      let o₂ = and pairs opsAt r x.after_stop o₁.ops in
      let r' : Fit most r = fit_up 40000 most r fr (omega arith) in
      let f₂ : Fit 40000 o₂.form = and_fit opsAt 40000 r x.after_stop o₁.ops (omega arith) fr (fit_up 32768 40000 x.after_stop k' (omega arith)) in
      let e₁ : and A opsAt (of r) (of x.reach) (of_ops A of same os) ≡ out A of same o₁ = and_sim A of same opsAt r x.reach os r' (fit_up 32768 most x.reach k (omega arith)) in
      record {
        reached = e₁;
        after_stop = (λ i. and A opsAt (of r) (of x.after_stop) (e₁ i).ops) ∙ and_sim A of same opsAt r x.after_stop o₁.ops r' (fit_up 32768 most x.after_stop k' (omega arith));
        called = or_sim A of same opsAt h o₂.form o₂.ops (fit_up 1 most h fh (omega arith)) (fit_up 40000 most o₂.form f₂ (omega arith));
        reached_fit = and_fit opsAt 40000 r x.reach os (omega arith) fr (fit_up 32768 40000 x.reach k (omega arith));
        after_fit = f₂;
      }

  spread_sim : (r h : Form) (xs : List ArbitratedChild) (os : List Op) → Fit 40000 r → Fit 1 h → All (λ (k : ArbitratedChild). Fit 32768 k.reach × Fit 32768 k.after_stop) xs
      → Spreads (spread A opsAt cursorsAt (of r) (of h) (map (of_arbitrated_child A of same) xs) (of_ops A of same os)) (spread pairs opsAt cursorsAt r h xs os)
  unfolding spread
  spread_sim r h [] os fr fh ks = record { is = refl; fit = tt }
  spread_sim r h (x ∷ xs) os fr fh ks =
      let o₁ = and pairs opsAt r x.reach os in
      let o₂ = and pairs opsAt r x.after_stop o₁.ops in
      let o₃ = or pairs opsAt h o₂.form o₂.ops in
      let t = tell r h x os fr fh ks.0.0 ks.0.1 in
      let i = spread_sim r h xs o₃.ops fr fh ks.1 in
      record {
        is = (λ j. let d = or A opsAt (of h) (t.after_stop j).form (t.after_stop j).ops in let rest = spread A opsAt cursorsAt (of r) (of h) (map (of_arbitrated_child A of same) xs) d.ops in
            record { items = record { reached = (t.reached j).form; called = d.form } ∷ rest.items; ops = rest.ops })
            ∙ (λ j. let rest = spread A opsAt cursorsAt (of r) (of h) (map (of_arbitrated_child A of same) xs) (t.called j).ops in
            record { items = record { reached = of o₁.form; called = (t.called j).form } ∷ rest.items; ops = rest.ops })
            ∙ (λ j. record { items = record { reached = of o₁.form; called = of o₃.form } ∷ (i.is j).items; ops = (i.is j).ops });
        fit = (record { reached = t.reached_fit; called = fit_up (1 + 40000 + 1) 40002 o₃.form (or_fit opsAt 1 40000 h o₂.form o₂.ops fh t.after_fit) (omega arith) }, i.fit);
      }

  pub children_sim : (n : Flat) (r h : Form) (xs : List ArbitratedChild) (os : List Op) → Fit 40000 r → Fit 1 h → All (λ (k : ArbitratedChild). Fit 32768 k.reach × Fit 32768 k.after_stop) xs
      → Spreads (children A opsAt cursorsAt n (of r) (of h) (map (of_arbitrated_child A of same) xs) (of_ops A of same os)) (children pairs opsAt cursorsAt n r h xs os)
  unfolding children
  children_sim leaf r h xs os fr fh ks = record { is = refl; fit = tt }
  children_sim (fixed b) r h xs os fr fh ks = record { is = refl; fit = tt }
  children_sim invert r h xs os fr fh ks = record { is = refl; fit = (record { reached = fr; called = fit_up 1 40002 h fh (omega arith) }, tt) }
  children_sim (force b) r h xs os fr fh ks = record { is = refl; fit = (record { reached = fr; called = fit_up 1 40002 h fh (omega arith) }, tt) }
  children_sim (ordered m q n) r h xs os fr fh ks = spread_sim r h xs os fr fh ks

  next_cur_sim : (n : Flat) (c : ℕ) (r u x : Form) (os : List Op) → next_cur A opsAt cursorsAt n c (of r) (of u) (of x) (of_ops A of same os) ≡ of_many A of same of (next_cur pairs opsAt cursorsAt n c r u x os)
  unfolding next_cur
  next_cur_sim leaf c r u x os = refl
  next_cur_sim (fixed b) c r u x os = refl
  next_cur_sim invert c r u x os = refl
  next_cur_sim (force b) c r u x os = refl
  next_cur_sim (ordered true q n) c r u x os =
      let a = push pairs opsAt x r os in
      let w = wire' (cursorsAt + c) in
      let b = push pairs opsAt w u a.ops in
      let ea : push A opsAt (of x) (of r) (of_ops A of same os) ≡ out A of same a = push_sim A of same opsAt x r os in
      let eb : push A opsAt (A.wire (cursorsAt + c)) (of u) (push A opsAt (of x) (of r) (of_ops A of same os)).ops ≡ out A of same b
      = (λ i. push A opsAt (same.wire_same (cursorsAt + c) i) (of u) (ea i).ops) ∙ push_sim A of same opsAt w u a.ops in
      (λ i. record { items = A.plus (ea i).form (eb i).form ∷ []; ops = (eb i).ops })
      ∙ (λ i. record { items = plus_sim A of same a.form b.form (push_fit opsAt x r os) (push_fit opsAt w u a.ops) i ∷ []; ops = of_ops A of same b.ops })
  next_cur_sim (ordered false q n) c r u x os = refl

  pub top_sim : (st : List Entry) → top (lost A opsAt cursorsAt) (map (of_entry A of same) st) ≡ of_entry A of same (top (lost pairs opsAt cursorsAt) st)
  top_sim [] = λ i. record { reached = same.constant_same 0 (omega arith) i; called = same.constant_same 0 (omega arith) i }
  top_sim (e ∷ st) = refl

  top_entry : (st : List Entry) → All EntryFit st → EntryFit (top (lost pairs opsAt cursorsAt) st)
  top_entry [] h = record { reached = fit_up 0 40000 (constant 0) (constant_fit 0) (omega arith); called = fit_up 0 40002 (constant 0) (constant_fit 0) (omega arith) }
  top_entry (e ∷ st) h = h.0

  pub record Falls (a : L.Down F) (d : Down) : Type 0 where
    pub is : a ≡ of_down A of same d
    pub fit : All OutFit d.outs

  -- what a node's turn makes of whole coefficients
  abbrev pub untouched_of : ℕ → List Entry → List Op → Out
  untouched_of i st os =
      let e = top (lost pairs opsAt cursorsAt) st in
      let h = and pairs opsAt e.called (wire' i) os in
      and pairs opsAt (not' pairs e.reached) (not' pairs h.form) h.ops

  abbrev pub cursor_of : ℕ → ℕ → Arbitration → List Entry → List Op → Many Form
  cursor_of i c x st os = let u = untouched_of i st os in next_cur pairs opsAt cursorsAt x.node c (top (lost pairs opsAt cursorsAt) st).reached u.form x.cursor u.ops

  abbrev pub children_of : ℕ → ℕ → Arbitration → List Entry → List Op → Many Entry
  children_of i c x st os =
      let e = top (lost pairs opsAt cursorsAt) st in
      children pairs opsAt cursorsAt x.node e.reached (and pairs opsAt e.called (wire' i) os).form x.kids (cursor_of i c x st os).ops

  -- a node's turn
  pub record Turn (i c : ℕ) (x : Arbitration) (st : List Entry) (os : List Op) : Type 0 where
    pub entry : EntryFit (top (lost pairs opsAt cursorsAt) st)
    pub halt_fits : Fit 1 (and pairs opsAt (top (lost pairs opsAt cursorsAt) st).called (wire' i) os).form
    pub halts : let e = top (lost pairs opsAt cursorsAt) st in
        and A opsAt (of e.called) (A.wire i) (of_ops A of same os) ≡ out A of same (and pairs opsAt e.called (wire' i) os)
    pub untouched : let e = top (lost pairs opsAt cursorsAt) st in let h = and pairs opsAt e.called (wire' i) os in
        and A opsAt (not' A (of e.reached)) (not' A (of h.form)) (of_ops A of same h.ops) ≡ out A of same (and pairs opsAt (not' pairs e.reached) (not' pairs h.form) h.ops)
    pub untouched_fit : let e = top (lost pairs opsAt cursorsAt) st in let h = and pairs opsAt e.called (wire' i) os in
        Fit 40001 (and pairs opsAt (not' pairs e.reached) (not' pairs h.form) h.ops).form
    pub later : let s = children_of i c x st os in map (of_entry A of same) s.items ++ drop 1 (map (of_entry A of same) st) ≡ map (of_entry A of same) (s.items ++ drop 1 st)
    pub later_fit : All EntryFit ((children_of i c x st os).items ++ drop 1 st)
    pub cursor : let e = top (lost pairs opsAt cursorsAt) st in let u = untouched_of i st os in
        next_cur A opsAt cursorsAt x.node c (of e.reached) (of u.form) (of x.cursor) (of_ops A of same u.ops) ≡ of_many A of same of (next_cur pairs opsAt cursorsAt x.node c e.reached u.form x.cursor u.ops)
    pub kids : let e = top (lost pairs opsAt cursorsAt) st in let h = and pairs opsAt e.called (wire' i) os in let k = cursor_of i c x st os in
        Spreads (children A opsAt cursorsAt x.node (of e.reached) (of h.form) (map (of_arbitrated_child A of same) x.kids) (of_ops A of same k.ops)) (children_of i c x st os)

  pub turn : (i c : ℕ) (x : Arbitration) (st : List Entry) (os : List Op) → ArbitrationFit x → All EntryFit st → Turn i c x st os
  turn i c x st os fx fs =
      let e = top (lost pairs opsAt cursorsAt) st in
      let r = e.reached in
      let fe : EntryFit e = top_entry st fs in
      let h = and pairs opsAt e.called (wire' i) os in
      let fh : Fit 1 h.form = halt_fit opsAt e.called i os in
      let nr = not' pairs r in
      let nh = not' pairs h.form in
      let fnr : Fit 40001 nr = not_fit 40000 r fe.reached in
      let fnh : Fit 2 nh = not_fit 1 h.form fh in
      let u = untouched_of i st os in
      let k = cursor_of i c x st os in
      let s = children_of i c x st os in
      let enr : not' A (of r) ≡ of nr = not_sim A of same r (fit_up 40000 (most + most + 1) r fe.reached (omega arith)) in
      let enh : not' A (of h.form) ≡ of nh = not_sim A of same h.form (fit_up 1 (most + most + 1) h.form fh (omega arith)) in
      let es = children_sim x.node r h.form x.kids k.ops fe.reached fh fx.kids in
      record {
        entry = fe;
        halt_fits = fh;
        halts = (λ j. and A opsAt (of e.called) (same.wire_same i j) (of_ops A of same os))
            ∙ and_sim A of same opsAt e.called (wire' i) os (fit_up 40002 most e.called fe.called (omega arith)) (fit_up 1 most (wire' i) (wire_fit i) (omega arith));
        untouched = (λ j. and A opsAt (enr j) (enh j) (of_ops A of same h.ops))
            ∙ and_sim A of same opsAt nr nh h.ops (fit_up 40001 most nr fnr (omega arith)) (fit_up 2 most nh fnh (omega arith));
        untouched_fit = and_fit opsAt 40001 nr nh h.ops (omega arith) fnr (fit_up 2 40001 nh fnh (omega arith));
        cursor = next_cur_sim x.node c r u.form x.cursor u.ops;
        kids = es;
        later = ap (λ (l : List (L.Entry F)). map (of_entry A of same) s.items ++ l) (drop_is A of same (of_entry A of same) 1 st) ∙ map-append (of_entry A of same) s.items (drop 1 st);
        later_fit = all_append EntryFit s.items (drop 1 st) es.fit (all_drop EntryFit 1 st fs);
      }

  pub down_sim : (i c : ℕ) (xs : List Arbitration) (st : List Entry) (os : List Op) → All ArbitrationFit xs → All EntryFit st
      → Falls (down A opsAt cursorsAt i c (map (of_arbitration A of same) xs) (map (of_entry A of same) st) (of_ops A of same os)) (down pairs opsAt cursorsAt i c xs st os)
  unfolding down
  down_sim i c [] st os fx fs = record { is = refl; fit = tt }
  down_sim i c (x ∷ xs) st os fx fs =
      let e = top (lost pairs opsAt cursorsAt) st in
      let r = e.reached in
      let h = and pairs opsAt e.called (wire' i) os in
      let u = untouched_of i st os in
      let k = cursor_of i c x st os in
      let s = children_of i c x st os in
      let et = top_sim st in
      let t = turn i c x st os fx.0 fs in
      let st' = s.items ++ drop 1 st in
      let rest = down_sim (suc i) (cell_after x.node c) xs st' s.ops fx.1 t.later_fit in
      let d = down pairs opsAt cursorsAt (suc i) (cell_after x.node c) xs st' s.ops in
      record {
        is = (λ j. after i c x xs (map (of_entry A of same) st) (et j) (and A opsAt (et j).called (A.wire i) (of_ops A of same os)))
            ∙ (λ j. after i c x xs (map (of_entry A of same) st) (of_entry A of same e) (t.halts j))
            ∙ (λ j. touched i c x xs (map (of_entry A of same) st) (of r) (of h.form) (t.untouched j))
            ∙ (λ j. kept i c x xs (map (of_entry A of same) st) (of r) (of h.form) (of u.form) (t.cursor j))
            ∙ (λ j. told i c x xs (drop 1 (map (of_entry A of same) st)) (of r) (of h.form) (of u.form) (map of k.items) (t.kids.is j))
            ∙ (λ j. joined i x (of r) (of h.form) (of u.form) (map of k.items) (down A opsAt cursorsAt (suc i) (cell_after x.node c) (map (of_arbitration A of same) xs) (t.later j) (of_ops A of same s.ops)))
            ∙ (λ j. joined i x (of r) (of h.form) (of u.form) (map of k.items) (rest.is j))
            ∙ (λ j. record {
              outs = record { raw = of_status of x.raw; reached = of r; halted = of h.form; was = same.wire_same i j; untouched = of u.form } ∷ map (of_out A of same) d.outs;
              cursors = map-append of k.items d.cursors j;
              ops = of_ops A of same d.ops;
            });
        fit = (record { reached = t.entry.reached; run = fx.0.run; was = wire_fit i; untouched = t.untouched_fit }, rest.fit);
      }

  -- a flag's turn
  pub record Keep (x : NodeReach) (os : List Op) : Type 0 where
    pub run : and A opsAt (of x.reached) (of x.raw.running) (of_ops A of same os) ≡ out A of same (and pairs opsAt x.reached x.raw.running os)
    pub stay : and A opsAt (of x.untouched) (of x.was) (and A opsAt (of x.reached) (of x.raw.running) (of_ops A of same os)).ops
        ≡ out A of same (and pairs opsAt x.untouched x.was (and pairs opsAt x.reached x.raw.running os).ops)

  pub keep : (x : NodeReach) (os : List Op) → OutFit x → Keep x os
  keep x os f =
      let a = and pairs opsAt x.reached x.raw.running os in
      let ea : and A opsAt (of x.reached) (of x.raw.running) (of_ops A of same os) ≡ out A of same a
      = and_sim A of same opsAt x.reached x.raw.running os (fit_up 40000 most x.reached f.reached (omega arith)) (fit_up 32769 most x.raw.running f.run (omega arith)) in
      record {
        run = ea;
        stay = (λ i. and A opsAt (of x.untouched) (of x.was) (ea i).ops)
            ∙ and_sim A of same opsAt x.untouched x.was a.ops (fit_up 40001 most x.untouched f.untouched (omega arith)) (fit_up 1 most x.was f.was (omega arith));
      }

  pub flags_sim : (xs : List NodeReach) (os : List Op) → All OutFit xs → flags A opsAt cursorsAt (map (of_out A of same) xs) (of_ops A of same os) ≡ of_many A of same of (flags pairs opsAt cursorsAt xs os)
  unfolding flags
  flags_sim [] os h = refl
  flags_sim (x ∷ xs) os h =
      let f = h.0 in
      let a = and pairs opsAt x.reached x.raw.running os in
      let b = and pairs opsAt x.untouched x.was a.ops in
      let fr : Fit 40000 x.raw.running = fit_up 32769 40000 x.raw.running f.run (omega arith) in
      let fw : Fit 40001 x.was = fit_up 1 40001 x.was f.was (omega arith) in
      let fa : Fit 4194304 a.form = fit_up 40000 4194304 a.form (and_fit opsAt 40000 x.reached x.raw.running os (omega arith) f.reached fr) (omega arith) in
      let fb : Fit 4194304 b.form = fit_up 40001 4194304 b.form (and_fit opsAt 40001 x.untouched x.was a.ops (omega arith) f.untouched fw) (omega arith) in
      let k = keep x os f in
      let r = flags_sim xs b.ops h.1 in
      (λ i. let rest = flags A opsAt cursorsAt (map (of_out A of same) xs) (k.stay i).ops in record { items = A.plus (k.run i).form (k.stay i).form ∷ rest.items; ops = rest.ops })
      ∙ (λ i. record { items = plus_sim A of same a.form b.form fa fb i ∷ (r i).items; ops = (r i).ops })

-- The whole circuit has at most 31 N² terms.
use Prim.Native.Nat.{◌*◌, ◌+◌, ◌≤◌, suc, ℕ}
use native.Mathlib.Omega.{arith}
use mathlib.Core.Bool.{false, true}
use mathlib.Core.List.{List, [], ◌++◌, ◌∷◌}
use mathlib.Core.Path.{◌≡◌, refl}
use lib.ListN.{drop, length}
use Rattle.construct.proofs.Builds.{wire_open}
use Rattle.construct.specs.Builder.{and, and_at, not', or, push}
use Rattle.construct.specs.Circuit.{Built, build, cell_end, cells_n, cells_nc, inputs, root, slot_end}
use Rattle.construct.specs.Forms.{Known, No, Open, Yes}
use Rattle.construct.specs.Lower.{Flat, cell_after, children, down, fixed, flags, force, invert, leaf, lost, next_cur, ordered, spread, top, up}
use Rattle.construct.specs.Pairs.{Entry, Form, Arbitration, ArbitratedChild, NodeReach, Op, constant, known, len, pairs, wire'}
use Rattle.lower_room.proofs.Sets.{not_len, plus_len}
use Rattle.lower_room.proofs.Sized.{Thin, ThinKids, UpFit, info_cost, info_costs, sizes_of, up_fit}
use Rattle.lower_room.proofs.Terms.{afters, and_cost, and_len, and_thin, op_terms, or_cost, sq_l, sum_l}
use Rattle.lists.specs.Every.{All}

-- op_terms of the outputs: three statuses, reached and halted; next running; next cursors
unfoldable pub out_terms : List NodeReach → ℕ
out_terms [] = 0
out_terms (x ∷ xs) = len x.raw.success + len x.raw.failure + len x.raw.running + len x.reached + len x.halted + out_terms xs

unfoldable pub form_terms : List Form → ℕ
form_terms [] = 0
form_terms (f ∷ fs) = len f + form_terms fs

unfoldable pub circuit_terms : Built Form → ℕ
circuit_terms c = op_terms c.running.ops + out_terms c.pass.outs + form_terms c.running.items + form_terms c.pass.cursors

-- still to be paid: the called forms of the entries; the flags
unfoldable pub pend : List Entry → ℕ
pend [] = 0
pend (e ∷ es) = len e.called + pend es

pend_append : (es fs : List Entry) → pend (es ++ fs) ≡ pend es + pend fs
unfolding pend
pend_append [] fs = omega arith
pend_append (e ∷ es) fs = omega (arith, pend_append es fs)

unfoldable pub flag_cost : List NodeReach → ℕ
flag_cost [] = 0
flag_cost (x ∷ xs) = 2 * len x.raw.running + 9 + flag_cost xs

abbrev pub Light : Entry → Type 0
Light e = len e.reached ≤ 2

pub light_append : (es fs : List Entry) → All Light es → All Light fs → All Light (es ++ fs)
light_append [] fs h k = k
light_append (e ∷ es) fs h k = (h.0, light_append es fs h.1 k)

pub light_drop : (es : List Entry) → All Light es → All Light (drop 1 es)
light_drop [] h = tt
light_drop (e ∷ es) h = h.1

pub record ThinOut (x : NodeReach) : Type 0 where
  pub reached : len x.reached ≤ 2
  pub untouched : len x.untouched ≤ 2
  pub was : len x.was ≤ 1

module _ (opsAt cursorsAt : ℕ) where
  -- halted: the flag's wire is never a constant, so the result is a wire or zero
  halt_at_lem : (t : Known) (f : Form) (i : ℕ) (os : List Op) → len (and_at pairs opsAt t Open f (wire' i) os).form ≤ 1
  unfolding and_at push wire' constant
  halt_at_lem Yes f i os = omega arith
  halt_at_lem No f i os = omega arith
  halt_at_lem Open f i os = omega arith

  pub halt_len : (f : Form) (i : ℕ) (os : List Op) → len (and pairs opsAt f (wire' i) os).form ≤ 1
  unfolding and
  halt_len f i os = rw (wire_open i) (halt_at_lem (known f) f i os)

  wire_len : (i : ℕ) → len (wire' i) ≡ 1
  unfolding wire'
  wire_len i = refl

  spread_cost : (r h : Form) (xs : List ArbitratedChild) (os : List Op) → len r ≤ 2 → len h ≤ 1 → All Thin xs
      → (op_terms (spread pairs opsAt cursorsAt r h xs os).ops + pend (spread pairs opsAt cursorsAt r h xs os).items ≤ op_terms os + afters xs) × All Light (spread pairs opsAt cursorsAt r h xs os).items
  unfolding spread afters pend
  spread_cost r h [] os lr lh t = (omega arith, tt)
  spread_cost r h (x ∷ xs) os lr lh t =
      let o₁ = and pairs opsAt r x.reach os in
      let o₂ = and pairs opsAt r x.after_stop o₁.ops in
      let o₃ = or pairs opsAt h o₂.form o₂.ops in
      let e₁ : op_terms o₁.ops ≤ op_terms os + len r + len x.reach = and_cost opsAt r x.reach os in
      let e₂ : op_terms o₂.ops + 2 * len o₂.form ≤ op_terms o₁.ops + 2 * len x.after_stop + 4 = and_thin opsAt r x.after_stop o₁.ops lr in
      let e₃ = or_cost opsAt h o₂.form o₂.ops in
      let l₁ : len o₁.form + 1 ≤ 3 = and_len opsAt r x.reach os 3 (omega arith) (omega (arith, t.0)) (omega arith) in
      let i = spread_cost r h xs o₃.ops lr lh t.1 in
      (omega (arith, i.0, e₃.0, e₃.1, t.0), (omega arith, i.1))

  -- a node's cursor ops and its children
  pub rest_cost : (n : Flat) (c : ℕ) (r h u x : Form) (ks : List ArbitratedChild) (os : List Op) → len r ≤ 2 → len h ≤ 1 → len u ≤ 2 → All Thin ks
      → (op_terms (children pairs opsAt cursorsAt n r h ks (next_cur pairs opsAt cursorsAt n c r u x os).ops).ops + pend (children pairs opsAt cursorsAt n r h ks (next_cur pairs opsAt cursorsAt n c r u x os).ops).items + form_terms (next_cur pairs opsAt cursorsAt n c r u x os).items ≤ op_terms os + len x + afters ks + 7)
      × All Light (children pairs opsAt cursorsAt n r h ks (next_cur pairs opsAt cursorsAt n c r u x os).ops).items
  unfolding children next_cur pend form_terms push op_terms
  rest_cost leaf c r h u x ks os lr lh lu t = (omega arith, tt)
  rest_cost (fixed b) c r h u x ks os lr lh lu t = (omega arith, tt)
  rest_cost invert c r h u x ks os lr lh lu t = (omega arith, (lr, tt))
  rest_cost (force b) c r h u x ks os lr lh lu t = (omega arith, (lr, tt))
  rest_cost (ordered true q n) c r h u x ks os lr lh lu t =
      let a = push pairs opsAt x r os in
      let b = push pairs opsAt (wire' (cursorsAt + c)) u a.ops in
      let s = spread_cost r h ks b.ops lr lh t in
      (omega (arith, s.0, plus_len a.form b.form, wire_len (cursorsAt + c), wire_len (opsAt + length os), wire_len (opsAt + length a.ops)), s.1)
  rest_cost (ordered false q n) c r h u x ks os lr lh lu t = let s = spread_cost r h ks os lr lh t in (omega (arith, s.0), s.1)

  pub top_light : (es : List Entry) → All Light es → (len (top (lost pairs opsAt cursorsAt) es).reached ≤ 2) × (len (top (lost pairs opsAt cursorsAt) es).called + pend (drop 1 es) ≤ pend es)
  unfolding pend constant
  top_light [] h = (omega arith, omega arith)
  top_light (e ∷ es) h = (h.0, omega arith)

  pub down_cost : (i c : ℕ) (xs : List Arbitration) (st : List Entry) (os : List Op) → All ThinKids xs → All Light st
      → (op_terms (down pairs opsAt cursorsAt i c xs st os).ops + out_terms (down pairs opsAt cursorsAt i c xs st os).outs + form_terms (down pairs opsAt cursorsAt i c xs st os).cursors + flag_cost (down pairs opsAt cursorsAt i c xs st os).outs ≤ op_terms os + info_costs xs + pend st)
      × All ThinOut (down pairs opsAt cursorsAt i c xs st os).outs
  unfolding down out_terms flag_cost info_costs info_cost form_terms
  down_cost i c [] st os t l = (omega arith, tt)
  down_cost i c (x ∷ xs) st os t l =
      let e = top (lost pairs opsAt cursorsAt) st in
      let h = and pairs opsAt e.called (wire' i) os in
      let u = and pairs opsAt (not' pairs e.reached) (not' pairs h.form) h.ops in
      let k = next_cur pairs opsAt cursorsAt x.node c e.reached u.form x.cursor u.ops in
      let s = children pairs opsAt cursorsAt x.node e.reached h.form x.kids k.ops in
      let d = down pairs opsAt cursorsAt (suc i) (cell_after x.node c) xs (s.items ++ drop 1 st) s.ops in
      let tl = top_light st l in
      let hl : len h.form ≤ 1 = halt_len e.called i os in
      let nr = not_len e.reached in
      let nh = not_len h.form in
      let ul : len u.form + 1 ≤ 3 = and_len opsAt (not' pairs e.reached) (not' pairs h.form) h.ops 3 (omega (arith, tl.0)) (omega arith) (omega arith) in
      let c₁ : op_terms h.ops ≤ op_terms os + len e.called + len (wire' i) = and_cost opsAt e.called (wire' i) os in
      let c₂ : op_terms u.ops ≤ op_terms h.ops + len (not' pairs e.reached) + len (not' pairs h.form) = and_cost opsAt (not' pairs e.reached) (not' pairs h.form) h.ops in
      let ul' : len u.form ≤ 2 = omega arith in
      let r = rest_cost x.node c e.reached h.form u.form x.cursor x.kids u.ops tl.0 hl ul' t.0 in
      let w = wire_len i in
      let q = down_cost (suc i) (cell_after x.node c) xs (s.items ++ drop 1 st) s.ops t.1 (light_append s.items (drop 1 st) r.1 (light_drop st l)) in
      let r₀ : op_terms s.ops + pend s.items + form_terms k.items ≤ op_terms u.ops + len x.cursor + afters x.kids + 7 = r.0 in
      let q₀ : op_terms d.ops + out_terms d.outs + form_terms d.cursors + flag_cost d.outs ≤ op_terms s.ops + info_costs xs + pend (s.items ++ drop 1 st) = q.0 in (
        omega (arith, tl.0, tl.1, pend_append s.items (drop 1 st), form_append k.items d.cursors),
        (record { reached = tl.0; untouched = ul'; was = omega arith }, q.1),
      )
    where
      form_append : (fs gs : List Form) → form_terms (fs ++ gs) ≡ form_terms fs + form_terms gs
      form_append [] gs = omega arith
      form_append (f ∷ fs) gs = omega (arith, form_append fs gs)

  flags_cost : (xs : List NodeReach) (os : List Op) → All ThinOut xs → op_terms (flags pairs opsAt cursorsAt xs os).ops + form_terms (flags pairs opsAt cursorsAt xs os).items ≤ op_terms os + flag_cost xs
  unfolding flags form_terms flag_cost
  flags_cost [] os t = omega arith
  flags_cost (x ∷ xs) os t =
      let a = and pairs opsAt x.reached x.raw.running os in
      let b = and pairs opsAt x.untouched x.was a.ops in
      let h = t.0 in
      let r₁ : len x.reached ≤ 2 = h.reached in
      let r₂ : len x.untouched ≤ 2 = h.untouched in
      let r₃ : len x.was ≤ 1 = h.was in
      let c₁ : op_terms a.ops ≤ op_terms os + len x.reached + len x.raw.running = and_cost opsAt x.reached x.raw.running os in
      let c₂ : op_terms b.ops ≤ op_terms a.ops + len x.untouched + len x.was = and_cost opsAt x.untouched x.was a.ops in
      let l₁ : len a.form + 1 ≤ len x.raw.running + 3 = and_len opsAt x.reached x.raw.running os (len x.raw.running + 3) (omega arith) (omega arith) (omega arith) in
      let l₂ : len b.form + 1 ≤ 3 = and_len opsAt x.untouched x.was a.ops 3 (omega arith) (omega arith) (omega arith) in
      omega (arith, flags_cost xs b.ops t.1, plus_len a.form b.form)

pub sum_sq : (ms : List ℕ) → sq_l ms ≤ sum_l ms * sum_l ms
unfolding sq_l sum_l
sum_sq [] = omega arith
sum_sq (m ∷ ms) = omega (arith, sum_sq ms)

pub root_light : Light (root pairs)
unfolding constant
root_light = omega arith

root_pend : pend (root pairs ∷ []) ≡ 0
unfolding pend constant
root_pend = refl

-- the term bound
pub term_bound : (ns : List Flat) → circuit_terms (build pairs ns) ≤ 31 * (length ns * length ns)
unfolding build circuit_terms
term_bound ns =
    let opsAt = inputs ns in
    let u = up pairs opsAt (cells_n ns) (cells_nc ns) 0 0 ns in
    let d = down pairs opsAt (cells_n ns) 0 0 u.arbitrations (root pairs ∷ []) u.ops in
    let f : UpFit opsAt (cells_n ns) (cells_nc ns) (sizes_of ns) (length ns) u = up_fit opsAt (cells_n ns) (cells_nc ns) (cell_end 0 ns) (slot_end 0 ns) (omega arith) (omega arith) 0 0 ns (omega arith) (omega arith) in
    let e = down_cost opsAt (cells_n ns) 0 0 u.arbitrations (root pairs ∷ []) u.ops f.reach (root_light, tt) in
    let g = flags_cost opsAt (cells_n ns) d.outs d.ops e.1 in
    let s : sum_l (sizes_of ns) * sum_l (sizes_of ns) ≡ length ns * length ns = rw f.whole refl in
    omega (arith, e.0, g, f.cost, sum_sq (sizes_of ns), s, root_pend)

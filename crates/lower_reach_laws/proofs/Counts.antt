-- How many things the construction's pass from the top makes: an entry a child, an output a node, a next cursor a cell.
use Prim.Native.Nat.{ℕ, suc, ◌+◌}
use native.Mathlib.Omega.{arith}
use mathlib.Core.Path.{◌≡◌, refl, ap, ◌∙◌}
use mathlib.Core.Bool.{true, false}
use mathlib.Core.List.{List, [], ◌∷◌, ◌++◌, map}
use lib.ListN.{length, drop, length-append}
use Rattle.construct.specs.Forms.{Forms}
use Rattle.construct.specs.Builder.{Op, and, or, not'}
use Rattle.construct.specs.Lower.{Flat, leaf, fixed, invert, force, ordered, cell_after, ArbitratedChild, Arbitration, Entry, spread, children, next_cur, lost, top, down}
use Rattle.construct.specs.Circuit.{cell_end}
use Rattle.lower_room.proofs.Uses.{kids_of}
use Rattle.lower_ordered_laws.proofs.Passes.{takes}

module _ {F : Type 0} (A : Forms F) (opsAt cursorsAt : ℕ) where
  pub spread_count : (r h : F) (xs : List (ArbitratedChild F)) (os : List (Op F)) → length (spread A opsAt cursorsAt r h xs os).items ≡ length xs
  unfolding spread
  spread_count r h [] os = refl
  spread_count r h (x ∷ xs) os =
      let a = and A opsAt r x.reach os in
      let b = and A opsAt r x.after_stop a.ops in
      ap suc (spread_count r h xs (or A opsAt h b.form b.ops).ops)

  pub children_count : (n : Flat) (r h : F) (xs : List (ArbitratedChild F)) (os : List (Op F)) → length xs ≡ kids_of n → length (children A opsAt cursorsAt n r h xs os).items ≡ takes n
  unfolding children
  children_count leaf r h xs os e = refl
  children_count (fixed b) r h xs os e = refl
  children_count invert r h xs os e = refl
  children_count (force b) r h xs os e = refl
  children_count (ordered m q n) r h xs os e = spread_count r h xs os ∙ e

  pub outs_count : (i c : ℕ) (xs : List (Arbitration F)) (st : List (Entry F)) (os : List (Op F)) → length (down A opsAt cursorsAt i c xs st os).outs ≡ length xs
  unfolding down
  outs_count i c [] st os = refl
  outs_count i c (x ∷ xs) st os = ap suc (outs_count (suc i) _ xs _ _)

  pub next_count : (n : Flat) (c : ℕ) (r u x : F) (os : List (Op F)) → length (next_cur A opsAt cursorsAt n c r u x os).items + c ≡ cell_after n c
  unfolding next_cur
  next_count leaf c r u x os = omega arith
  next_count (fixed b) c r u x os = omega arith
  next_count invert c r u x os = omega arith
  next_count (force b) c r u x os = omega arith
  next_count (ordered true q n) c r u x os = omega arith
  next_count (ordered false q n) c r u x os = omega arith

  pub curs_count : (i c : ℕ) (ns : List Flat) (xs : List (Arbitration F)) (st : List (Entry F)) (os : List (Op F)) → map (λ (x : Arbitration F). x.node) xs ≡ ns
      → length (down A opsAt cursorsAt i c xs st os).cursors + c ≡ cell_end c ns
  unfolding down cell_end
  curs_count i c ns [] st os e = rw (← e) (omega arith)
  curs_count i c ns (x ∷ xs) st os e =
      let t = top (lost A opsAt cursorsAt) st in
      let h = and A opsAt t.called (A.wire i) os in
      let u = and A opsAt (not' A t.reached) (not' A h.form) h.ops in
      let k = next_cur A opsAt cursorsAt x.node c t.reached u.form x.cursor u.ops in
      let s = children A opsAt cursorsAt x.node t.reached h.form x.kids k.ops in
      let rest = down A opsAt cursorsAt (suc i) (cell_after x.node c) xs (s.items ++ drop 1 st) s.ops in
      rw (← e) (omega (arith, length-append k.items rest.cursors, next_count x.node c t.reached u.form x.cursor u.ops, curs_count (suc i) (cell_after x.node c) (map (λ (y : Arbitration F). y.node) xs) xs (s.items ++ drop 1 st) s.ops refl))

-- The value table as a list, the input cells and then each op's value in order, holds the walk.
use Prim.Native.Nat.{◌*◌, ◌+◌, ◌<◌, suc, ℕ}
use native.Mathlib.Omega.{arith}
use mathlib.Core.Bool.{Bool, false, not, true}
use mathlib.Core.List.{List, [], ◌++◌, ◌∷◌, reverse, reverse-cons}
use mathlib.Core.Path.{◌∙◌, ◌≡◌, refl, sym}
use lib.Dec.{T, leb, leb→le, nleb→lt}
use lib.ListN.{get_or-append, get_or, length, length-append}
use lib.Seq.{get_or_at}
use Rattle.construct.proofs.Builds.{Sat}
use Rattle.construct.proofs.Right.{Holds, Right, State, eval_holds, sat_right}
use Rattle.construct.proofs.Scope.{Agree, Wf, agree_op, agree_sat, eval, eval_input, eval_new, eval_old, eval_sat}
use Rattle.construct.proofs.Scoped.{circuit_made}
use Rattle.construct.specs.Circuit.{build, cells_nc, construct, inputs}
use Rattle.construct.specs.Lower.{Flat}
use Rattle.construct.specs.Pairs.{Op, pairs}
use Rattle.construct.specs.Value.{cell, op_val, table_of}

-- ops newest first
unfoldable run : List ℕ → List Op → List ℕ
run ins [] = ins
run ins (o ∷ os) = run ins os ++ (op_val (λ w. get_or (run ins os) w 0) o ∷ [])

run_length : (ins : List ℕ) (os : List Op) → length (run ins os) ≡ length ins + length os
unfolding run
run_length ins [] = omega arith
run_length ins (o ∷ os) = simp length-append (omega (arith, run_length ins os))

run_eval : (ins : List ℕ) (os : List Op) → Wf (length ins) os → (w : ℕ) → w < length ins + length os → cell (run ins os) w ≡ eval (length ins) (cell ins) os w
unfolding run
run_eval ins [] wf w l = sym (eval_input (length ins) (cell ins) w)
run_eval ins (o ∷ os) wf w l = go (leb (suc w) (length ins + length os)) (leb→le (suc w) (length ins + length os)) (nleb→lt (suc w) (length ins + length os))
    (run_eval ins os wf.2)
  where
    v : ℕ
    v = op_val (cell (run ins os)) o

    go : (b : Bool) → (T b → w < length ins + length os) → (T (not b) → length ins + length os < suc w)
        → ((w : ℕ) → w < length ins + length os → cell (run ins os) w ≡ eval (length ins) (cell ins) os w)
        → cell (run ins os ++ (op_val (cell (run ins os)) o ∷ [])) w ≡ eval (length ins) (cell ins) (o ∷ os) w
    go true f g ih = get_or-append (run ins os) (v ∷ []) 0 w (omega (arith, run_length ins os, f tt)) ∙ ih w (f tt) ∙ sym (eval_old (length ins) (cell ins) o os w (f tt))
    go false f g ih =
        let e : w ≡ length ins + length os = omega (arith, g tt) in
        get_or_at (run ins os) v [] 0 w (run_length ins os ∙ sym e)
        ∙ agree_op (length ins + length os) (eval (length ins) (cell ins) os) (cell (run ins os)) ih o wf.0 wf.1
        ∙ sym (rw e (eval_new (length ins) (cell ins) o os))

table_append : (ins : List ℕ) (xs ys : List Op) → table_of ins (xs ++ ys) ≡ table_of (table_of ins xs) ys
unfolding table_of
table_append ins [] ys = refl
table_append ins (x ∷ xs) ys = table_append (ins ++ (op_val (cell ins) x ∷ [])) xs ys

run_table : (ins : List ℕ) (os : List Op) → table_of ins (reverse os) ≡ run ins os
unfolding table_of run
run_table ins [] = refl
run_table ins (o ∷ os) = rw (reverse-cons o os, table_append ins (reverse os) (o ∷ []), run_table ins os) refl

-- the whole circuit on a list of inputs: the outputs read in the table are the walk's
module _ (ns : List Flat) (ins : List ℕ) (x : State) (shape : length ins ≡ inputs ns) (held : Holds ns (cell ins) x) where
  abbrev ops : List Op
  ops = (build pairs ns).running.ops

  same_table : Agree (inputs ns + length ops) (eval (inputs ns) (cell ins) ops) (cell (run ins ops))
  same_table = rw shape at (run_eval ins ops (rw shape (circuit_made ns).wf))

  run_holds : Holds ns (cell (run ins ops)) x
  run_holds =
      let h = eval_holds ns (cell ins) x held in
      record {
        flag = λ i l. same_table i (omega arith) ∙ h.flag i l;
        cursor = λ c l. same_table (length ns + c) (omega arith) ∙ h.cursor c l;
        leaf_s = λ s l. same_table (cells_nc ns + 3 * s) (omega arith) ∙ h.leaf_s s l;
        leaf_f = λ s l. same_table (cells_nc ns + 3 * s + 1) (omega arith) ∙ h.leaf_f s l;
        leaf_r = λ s l. same_table (cells_nc ns + 3 * s + 2) (omega arith) ∙ h.leaf_r s l;
      }

  run_sat : Sat (inputs ns) (cell (run ins ops)) ops
  run_sat = agree_sat (inputs ns) (eval (inputs ns) (cell ins) ops) (cell (run ins ops)) ops same_table (circuit_made ns).wf (eval_sat (inputs ns) (cell ins) ops (circuit_made ns).wf)

  -- the table of the circuit's ops in order: it satisfies every op, still holds the state, and holds the walk
  abbrev table : List ℕ
  table = table_of ins (construct pairs ns).ops

  pub table_sat : Sat (inputs ns) (cell table) ops
  unfolding construct
  table_sat = rw (run_table ins ops) run_sat

  pub table_holds : Holds ns (cell table) x
  unfolding construct
  table_holds = rw (run_table ins ops) run_holds

  pub table_right : Right ns (cell table) x
  table_right = sat_right ns (cell table) x table_holds table_sat

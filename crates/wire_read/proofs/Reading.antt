-- The wires of a form tested one by one, and what a form or an op that passes tells who reads it with no test.
use mathlib.Core.Path.{◌≡◌, refl}
use mathlib.Core.List.{List}
use mathlib.Core.Bool.{true}
use Prim.Native.Nat.{ℕ, zero, suc, ◌+◌, ◌-◌, ◌≤◌, ◌<◌}
use native.Mathlib.Numerals.{add-one}
use native.Mathlib.Omega.{arith}
use Rattle.std.proofs.lemmas.Bool.Decides.{nat_tests}
use Rattle.std.proofs.lemmas.Bool.{ltb-true}
use Rattle.std.proofs.lemmas.List.{get_or-drop, length-drop}
use Rattle.std.proofs.lemmas.List.Folds.{list_all_more}
use Rattle.std.specs.List.{list_all}
use lib.ListN.{length, get_or, take, drop}
use lib.Dec.{ltb}
use lib.Ieee.{Float}
use Rattle.wire.specs.declared.Form.{Form}
use Rattle.wire.specs.Storage.{left_form, gate_form}
use Rattle.wire_pool.specs.Values.{Readable, OpReadable}
use Rattle.lists.specs.All.{all}
use Rattle.lists.proofs.Tests.{all_at}
use Rattle.wire_read.specs.Reading.{reads_below, readable, stored_op, op_reads, slot_reads}

-- the test of a part of the pool is the test of each of its indices
pub reads_part : (ws : List ℕ) (n first len : ℕ) → first + len ≤ length ws
    → list_all (λ w. ltb w n) (take len (drop first ws)) ≡ all (reads_below ws n first) len
unfolding all reads_below
reads_part ws n first zero h = refl
reads_part ws n first (suc len) h =
    let short : len < length (drop first ws) = omega (arith, length-drop first ws) in
    let more = list_all_more (λ w. ltb w n) (drop first ws) len 0 short in
    (rw (add-one len, reads_part ws n first len (omega arith), get_or-drop first ws len 0) at more)

module _ (ws : List ℕ) (cs : List Float) (n : ℕ) (f : Form) where
  pub reads_is : f.first + f.len ≤ length ws → f.first + f.len ≤ length cs → all (reads_below ws n f.first) f.len ≡ readable ws cs n f
  unfolding readable
  reads_is a b = grind (arith, nat_tests)

  -- a form that passes can be read with no test
  pub may_read : readable ws cs n f ≡ true → Readable ws cs n f
  unfolding readable reads_below
  may_read e =
      record {
        in_wires = grind (arith, nat_tests);
        in_coefs = grind (arith, nat_tests);
        reads =
            λ k a b.
            let each : all (reads_below ws n f.first) f.len ≡ true = grind (arith, nat_tests) in
            let q : f.first + (k - f.first) ≡ k = omega arith in
            let t = ltb-true (get_or ws (f.first + (k - f.first)) 0) n (all_at (reads_below ws n f.first) (k - f.first) f.len (omega arith) each) in
            (rw q at t);
      }

-- an op that passes can be read with no test
pub may_read_op : (nums : List ℕ) (bs : List Float) (ws : List ℕ) (cs : List Float) (n i : ℕ)
    → slot_reads ws cs n (stored_op nums bs i) ≡ true → OpReadable nums bs ws cs n i
unfolding stored_op slot_reads op_reads
may_read_op nums bs ws cs n i e =
    record {
      slot = grind (arith, nat_tests);
      kind_low = grind (arith, nat_tests);
      kind_high = grind (arith, nat_tests);
      left = may_read ws cs n (left_form nums bs i) (grind (arith, nat_tests));
      gate = λ k. may_read ws cs n (gate_form nums bs i) (grind (arith, nat_tests));
    }

-- What the two contracts permit is one outcome, that of the definitions that they cite; and this they do permit.
use mathlib.Core.Path.{◌≡◌, refl}
use mathlib.Core.List.{List, []}
use Prim.Native.Nat.{ℕ}
use lib.ListN.{length, replicate}
use Rattle.std.proofs.lemmas.List.{length-replicate}
use Rattle.exact.specs.Whole.{zero32}
use Rattle.tick_check.specs.Check.{Stored}
use Rattle.tick_lane.specs.Lane.{Lent, Outcome}
use Rattle.tick.specs.Tick.{tick_of}
use Rattle.compile.specs.Answer.{Compiled}
use Rattle.compile.specs.Compile as compile
use Rattle.demands.specs.Contracts.{Rooms, lengths_of, CompilePermits, TickPermits}
use Rattle.demands.proofs.Lengths.{nowhere, compile_stays, tick_stays}

-- ---- compile

abbrev pub outcome_in : Compiled → Rooms → compile.Outcome
outcome_in answer left = record { answer = answer; nums = left.nums; biases = left.biases; wires = left.wires; coefs = left.coefs }

module _ (tree : List ℕ) (m : Rooms) (answer : Compiled) (left : Rooms) (p : CompilePermits tree m answer left) where
  pub compile_is : outcome_in answer left ≡ compile.compile_of (lengths_of m) tree
  compile_is = p.post.1.0

  pub work_is : (left.work_nums ≡ replicate (length m.work_nums) 0) × (left.work_biases ≡ replicate (length m.work_biases) zero32)
      × (left.work_wires ≡ replicate (length m.work_wires) 0) × (left.work_coefs ≡ replicate (length m.work_coefs) zero32)
  work_is = p.post.1.1

pub compile_may : (tree : List ℕ) (m : Rooms)
    → let o = compile.compile_of (lengths_of m) tree in
    CompilePermits tree m o.answer
    (record {
      nums = o.nums;
      biases = o.biases;
      wires = o.wires;
      coefs = o.coefs;
      work_nums = replicate (length m.work_nums) 0;
      work_biases = replicate (length m.work_biases) zero32;
      work_wires = replicate (length m.work_wires) 0;
      work_coefs = replicate (length m.work_coefs) zero32;
    })
compile_may tree m =
    let h = compile_stays (lengths_of m) tree in
    record {
      κs = ([], ([], ([], ([], ([], tt)))));
      at = nowhere;
      post = (
        (
          (refl, refl, refl, refl, h.0, h.1, h.2, h.3),
          (refl, refl, refl, refl, length-replicate _ 0, length-replicate _ zero32, length-replicate _ 0, length-replicate _ zero32),
        ),
        (refl, (refl, refl, refl, refl)),
      );
    }

-- ---- tick

pub tick_is : (s : Stored) (row : List ℕ) (m : Lent) (o : Outcome) → TickPermits s row m o → o ≡ tick_of s row m
tick_is s row m o p = p.post.1

pub tick_may : (s : Stored) (row : List ℕ) (m : Lent) → TickPermits s row m (tick_of s row m)
tick_may s row m =
    let h = tick_stays s row m in
    record {
      κs = ([], ([], ([], ([], ([], tt)))));
      at = nowhere;
      post = ((refl, refl, refl, refl, refl, refl, h.0, h.1, h.2, h.3, h.4, h.5), refl);
    }

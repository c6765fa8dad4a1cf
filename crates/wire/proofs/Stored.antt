-- What storage that holds its counts tells a reader, and the lists of a circuit entry by entry.
use mathlib.Core.Path.{◌≡◌, sym, ◌∙◌}
use mathlib.Core.List.{List, []}
use mathlib.Core.Bool.{true}
use Prim.Native.Nat.{ℕ, ◌+◌, ◌<◌}
use native.Mathlib.Omega.{arith}
use Rattle.std.proofs.lemmas.Bool.Decides.{nat_tests}
use lib.ListN.{length, get_or}
use lib.Ieee.{Float, nan}
use lib.Seq.{ext_get_or}
use Rattle.wire.specs.declared.Counts.{Counts}
use Rattle.wire.specs.Held.{Held}
use Rattle.wire.specs.Storage.{storage_holds, op_at, output_at, output_count, numbers_from, circuit_of, leaves_from, cursors_from, report_from, Circuit, neither}
use Rattle.lists.proofs.Entries.{each_length, each_get_d, each_is}

-- ---- slots

pub held : (n : Counts) (nums biases wires coefs : ℕ) → storage_holds n nums biases wires coefs ≡ true → Held n nums biases wires coefs
unfolding storage_holds
held n nums biases wires coefs e =
    record { in_nums = grind (arith, nat_tests); in_biases = grind (arith, nat_tests); in_wires = grind (arith, nat_tests); in_coefs = grind (arith, nat_tests) }

pub holds : (n : Counts) (nums biases wires coefs : ℕ) → Held n nums biases wires coefs → storage_holds n nums biases wires coefs ≡ true
unfolding storage_holds
holds n nums biases wires coefs h = grind (arith, nat_tests)

-- ---- the lists of a circuit

-- a list of nodes: its length, and its entry k
pub numbers_length : (nums : List ℕ) (from n : ℕ) → length (numbers_from nums from n) ≡ n
unfolding numbers_from
numbers_length nums from n = each_length (λ k. get_or nums k 0) from n

pub numbers_at : (nums : List ℕ) (from n k d : ℕ) → k < n → get_or (numbers_from nums from n) k d ≡ get_or nums (from + k) 0
unfolding numbers_from
numbers_at nums from n k d h = each_get_d (λ k. get_or nums k 0) from n k d h

pub numbers_are : (nums : List ℕ) (from n : ℕ) (xs : List ℕ) → length xs ≡ n → ((k : ℕ) → k < length xs → get_or nums (from + k) 0 ≡ get_or xs k 0) → numbers_from nums from n ≡ xs
numbers_are nums from n xs l e =
    ext_get_or 0 (numbers_from nums from n) xs (numbers_length nums from n ∙ sym l)
    (λ k h. let b : k < n = omega (arith, numbers_length nums from n) in numbers_at nums from n k 0 b ∙ e k (omega arith))

-- ---- storage means a circuit whose lists its entries are, read by index

module _ (c : Circuit) (nums : List ℕ) (biases : List Float) (wires : List ℕ) (coefs : List Float) where
  -- the numbers from an index on are a list's
  abbrev pub NumbersAre : ℕ → List ℕ → Type 0
  NumbersAre from xs = (k : ℕ) → k < length xs → get_or nums (from + k) 0 ≡ get_or xs k 0

  pub record Means : Type 0 where
    pub leaf_count : length c.leaves ≡ c.counts.leaves
    pub cursor_count : length c.cursors ≡ c.counts.cursors
    pub report_count : length c.report ≡ c.counts.nodes
    pub op_count_lem : length c.ops ≡ c.counts.ops
    pub output_count_lem : length c.outputs ≡ output_count c.counts
    pub leaves : NumbersAre leaves_from c.leaves
    pub cursors : NumbersAre cursors_from c.cursors
    pub report : NumbersAre report_from c.report
    pub ops : (k : ℕ) → k < c.counts.ops → op_at nums biases wires coefs k ≡ get_or c.ops k neither
    pub outputs : (k : ℕ) → k < output_count c.counts → output_at nums biases wires coefs k ≡ get_or c.outputs k (record { bias = nan; terms = [] })

  pub circuit_is : Means → circuit_of c.counts nums biases wires coefs ≡ c
  unfolding circuit_of
  circuit_is m =
      λ j.
      record {
        counts = c.counts;
        leaves = numbers_are nums leaves_from c.counts.leaves c.leaves m.leaf_count m.leaves j;
        cursors = numbers_are nums cursors_from c.counts.cursors c.cursors m.cursor_count m.cursors j;
        report = numbers_are nums report_from c.counts.nodes c.report m.report_count m.report j;
        ops = each_is (op_at nums biases wires coefs) c.counts.ops c.ops neither m.op_count_lem m.ops j;
        outputs = each_is (output_at nums biases wires coefs) (output_count c.counts) c.outputs (record { bias = nan; terms = [] }) m.output_count_lem m.outputs j;
      }

-- The records of a tree within the limits and of valid rows are of bytes: each length fits into its two.
use Rattle.std.proofs.Common.{List, [], ◌∷◌, ◌++◌, ℕ, ◌*◌, ◌≤◌, ◌<◌, arith, length, length-append, Option, None, Some}
use Rattle.tree_kinds.specs.Kinds.{Entry, row_of}
use Rattle.tree_kinds.specs.declared.Family.{Family}
use Rattle.tree_kinds.specs.declared.Family.TheVariants.{Leaf, Composite, Decorator, Never}
use Rattle.tree.specs.Forest.{Forest, none, node, width, size}
use Rattle.tree.specs.Bytes.{Bytes, payload, record_by, record_bytes, Within, bytes_of}
use Rattle.tree_laws.proofs.Exact.{tree_bytes}
use Rattle.lists.specs.Every.{All}
use Rattle.plan_laws.proofs.Nodes.{leaves_count, leaves_few}
use Rattle.demands.specs.Demands.{ValidRow}
use Rattle.list_rows.specs.Rows.{row_kind}
use Rattle.list_rows.specs.Listing.{tree_kind}
use Rattle.list_laws.specs.Lines.{outer_record}

payload_few : (family : Family) (count : ℕ) → length (payload family count) ≤ 2
payload_few Leaf count = omega arith
payload_few Composite count = omega arith
payload_few Decorator count = omega arith
payload_few Never count = omega arith

-- a node's record has at most 6 bytes
record_few : (row : Option Entry) (kind count : ℕ) → length (record_by row kind count) ≤ 6
record_few None kind count = omega arith
record_few (Some row) kind count = omega (arith, payload_few row.family count)

tree_few : (f : Forest ℕ) → length (bytes_of f) ≤ 6 * size f
tree_few none = omega arith
tree_few (node kind kids rest) =
    omega (
      arith,
      record_few (row_of kind) kind (width kids),
      tree_few kids,
      tree_few rest,
      length-append (record_bytes kind (width kids) ++ bytes_of kids) (bytes_of rest),
      length-append (record_bytes kind (width kids)) (bytes_of kids),
    )

outer_bytes : (kind : ℕ) (payload : List ℕ) → kind < 65536 → length payload < 65534 → Bytes payload → Bytes (outer_record kind payload)
outer_bytes kind payload k l b = (omega arith, (omega arith, (omega arith, (omega arith, b))))

statuses_low : (row : List ℕ) → All (λ (status : ℕ). status ≤ 2) row → Bytes row
statuses_low [] low = tt
statuses_low (x ∷ xs) low = (omega (arith, low.0), statuses_low xs low.1)

module _ (f : Forest ℕ) (w : Within f) where
  pub tree_record : Bytes (outer_record tree_kind (bytes_of f))
  tree_record = outer_bytes tree_kind (bytes_of f) (omega arith) (omega (arith, tree_few f, w.few)) (tree_bytes f w)

  pub row_record_lem : (row : List ℕ) → ValidRow f row → Bytes (outer_record row_kind row)
  row_record_lem row v =
      outer_bytes row_kind row (omega arith) (omega (arith, v.long, leaves_count f w.lowered w.few, leaves_few f w.lowered w.few, w.few))
      (statuses_low row v.low)

-- Where the table stands for the construction's circuit, what settling answers and leaves is what compile's definition says.
use Prim.Native.Nat.{ℕ, ◌+◌, ◌*◌}
use mathlib.Core.Path.{◌≡◌, sym, ap, ◌∙◌}
use mathlib.Core.Bool.{cond}
use mathlib.Core.List.{List}
use lib.Dec.{ltb}
use lib.ListN.{length, replicate, length-replicate, length-reverse}
use lib.Seq.{length-sets}
use Rattle.exact.specs.Whole.{zero32}
use Rattle.tree_record.specs.declared.refusal.Cause.{Cause}
use Rattle.tree_record.specs.declared.refusal.Cause.TheVariants.{NoOpRoom, NoTermRoom}
use Rattle.tree.specs.Tree.{accepted}
use Rattle.plan.specs.Plan.{leaves_of, cursors_of}
use Rattle.wire.specs.Terms.{Affine}
use Rattle.wire.specs.Storage.{leaves_from, op_slots, term_slots}
use Rattle.construct_floats.specs.Floats.{floats}
use Rattle.construct.specs.Circuit.{Circuit, forms_of, op_count, term_count}
use Rattle.std.specs.Prelude.{Ok, Err}
use Rattle.compile.specs.Encode.{Lists, terms_of_all, list_nums, nums_of, biases_in, wires_of, coefs_of}
use Rattle.compile.specs.Compile.{Lent, circuit_of, lists_of, refusal, stored, compile_tree}
use Rattle.builder_table.specs.Work.{Stood}
use Rattle.lower_emit.specs.Emit.{all_lens, outputs_many, image, emit_in, OpsInside, OutputsInside}
use Rattle.lower_emit_laws.proofs.Emitted.{Many, counted, encoded, ops_lie, outputs_lie}
use Rattle.lower_emit.specs.Settle.{outcome, refused_in, written_in, settled_in}
use Rattle.lower_emit_laws.specs.Built.{BuiltAs}

lists_length : (n : ℕ) (p : Lists) → length (list_nums n p) ≡ n
unfolding list_nums
lists_length n p =
    length-sets _ _ p.report
    ∙ length-sets _ _ p.cursors
    ∙ length-sets (replicate n 0) leaves_from p.leaves
    ∙ length-replicate n 0

module _ (s : Stood) (c : Circuit Affine) (nodes cursors : ℕ) (h : BuiltAs s c nodes cursors) where
  ops_are : s.builder.ops ≡ op_count c
  ops_are = h.ops ∙ sym (length-reverse h.newest) ∙ ap length (sym h.circuit.order)

  many : Many c s.builder.ops nodes cursors
  many = record { ops = ops_are; nodes = h.nodes; cursors = h.cursors }

  -- what settling asks for
  pub terms_are : all_lens s.mem.nums s.builder.ops nodes cursors ≡ term_count floats c
  terms_are = counted s.mem s.builder.room.used h.newest c h.circuit s.builder.ops nodes cursors many

  pub ops_inside : OpsInside s.mem s.builder.ops
  ops_inside = ops_lie s.mem s.builder.room.used h.newest c h.circuit s.builder.ops nodes cursors many h.wires h.coefs

  pub outputs_inside : OutputsInside s.mem nodes (outputs_many nodes cursors)
  outputs_inside = outputs_lie s.mem s.builder.room.used h.newest c h.circuit s.builder.ops nodes cursors many h.wires h.coefs

  emitted : (ln lb lw lc : ℕ) (p : Lists)
      → emit_in (image (list_nums ln p) (replicate lb zero32) (replicate lw 0) (replicate lc zero32) 0) s.mem s.builder.ops nodes cursors
      ≡ image (nums_of ln p c) (biases_in lb c) (wires_of lw c) (coefs_of lc c) (length (terms_of_all (forms_of c)))
  emitted = encoded s.mem s.builder.room.used h.newest c h.circuit s.builder.ops nodes cursors many

-- THE LAW
module _ (l : Lent) (kinds counts : List ℕ) (s : Stood) (h : BuiltAs s (circuit_of kinds counts) (length kinds) (length (cursors_of kinds))) where
  pub settled_is :
      settled_in (list_nums l.nums (lists_of kinds counts)) (replicate l.biases zero32) (replicate l.wires 0) (replicate l.coefs zero32) s.mem s.builder.ops (length kinds) (length (cursors_of kinds)) (length (leaves_of kinds))
      ≡ compile_tree l (accepted kinds counts)
  unfolding settled_in written_in compile_tree stored
  settled_is =
      let c = circuit_of kinds counts in
      let n = lists_length l.nums (lists_of kinds counts) in
      let b = length-replicate l.biases zero32 in
      let w = length-replicate {A = ℕ} l.wires 0 in
      let f = length-replicate l.coefs zero32 in
      let o = ops_are s c (length kinds) (length (cursors_of kinds)) h in
      let t = terms_are s c (length kinds) (length (cursors_of kinds)) h in
      let e = emitted s c (length kinds) (length (cursors_of kinds)) h l.nums l.biases l.wires l.coefs (lists_of kinds counts) in
      let none : (cause : Cause) → refused_in (list_nums l.nums (lists_of kinds counts)) (replicate l.biases zero32) (replicate l.wires 0) (replicate l.coefs zero32) cause ≡ refusal l cause 0 =
      λ cause i. outcome (Err (record { cause = cause; place = 0 })) (replicate (n i) 0) (replicate (b i) zero32) (replicate (w i) 0) (replicate (f i) zero32) in
      let k = length (cursors_of kinds) in
      let q = length (leaves_of kinds) in
      λ i.
      cond (ltb (op_slots (n i) (b i)) (o i))
      (none NoOpRoom i)
      (cond (ltb (term_slots (w i) (f i)) (t i))
      (none NoTermRoom i)
      (outcome (Ok (record { nodes = length kinds; cursors = k; leaves = q; cells = length kinds + k + 3 * q; ops = o i; terms = t i })) (e i).nums (e i).biases (e i).wires (e i).coefs))

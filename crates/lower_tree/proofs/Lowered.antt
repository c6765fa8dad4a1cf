-- What the steps of lowering ask for and leave, from what their callees leave.
use Rattle.std.proofs.Common.{◌≡◌, ℕ, suc, ◌-◌, ◌≤◌, ◌<◌, true, List, [], ◌∷◌, Ok, Err, length, take, get_or, replicate}
use Rattle.std.proofs.Common.{refl, sym, ap, ◌∙◌, subst, arith, w8, Fits}
use Rattle.std.proofs.Math.Seq.{take-append_seam}
use borrow.Author.Tests.{leb-true}
use Rattle.exact.specs.Whole.{zero32}
use Rattle.lists.proofs.Tests.{both_sides}
use Rattle.tree_record.specs.declared.refusal.Refusal.{Refusal}
use Rattle.wire.specs.declared.storage.Storage.{Storage}
use Rattle.tree.specs.Tree.{Parsed, accepted, refused, tree_of, flat_of, answer_of, kinds_in, counts_in}
use Rattle.tree.specs.Bytes.{Bytes}
use Rattle.plan.specs.declared.cells.Plan.{Plan}
use Rattle.plan.specs.Plan.{leaves_of, cursors_of}
use Rattle.compile.specs.Encode.{list_nums}
use Rattle.compile.specs.declared.WorkRoom.{WorkRoom}
use Rattle.compile.specs.Lending.{lent_in}
use Rattle.compile.specs.Compile.{Lent, lent, Outcome, circuit_of, lists_of, roomy, compile_tree}
use Rattle.builder_table.specs.Whole.{Whole, ops_most}
use Rattle.builder_table.specs.Work.{Mem, mem, Stood}
use Rattle.lower_passes.specs.Build.{build_in}
use Rattle.lower_emit.specs.Emit.{all_lens, outputs_many, OpsInside, OutputsInside}
use Rattle.lower_emit.specs.Settle.{outcome, outcome_in, listed_in, plan_of, settled_in}
use Rattle.lower_emit_laws.specs.Built.{BuiltAs, Builds}
use Rattle.lower_emit_laws.proofs.Settled.{terms_are, ops_inside, outputs_inside, settled_is}
use Rattle.lower_build_laws.proofs.Buildable.{buildable}
use Rattle.lower_tree.specs.Steps.{Zeroed}

-- ---- the nodes of an accepted tree

-- what settling asks of a table that was built, and what it leaves where the lists are in place
pub record Settles (s : Stood) (p : Plan) (kinds counts : List ℕ) : Type 0 where
  pub few : s.builder.ops ≤ ops_most
  pub ops_lie : OpsInside s.mem s.builder.ops
  pub outputs_lie : OutputsInside s.mem p.nodes (outputs_many p.nodes p.cursors)
  pub terms_few : all_lens s.mem.nums s.builder.ops p.nodes p.cursors < 4294967296
  pub settled : (n : Lent)
      → settled_in (list_nums n.nums (lists_of kinds counts)) (replicate n.biases zero32) (replicate n.wires 0) (replicate n.coefs zero32)
      s.mem s.builder.ops p.nodes p.cursors p.leaves ≡ compile_tree n (accepted kinds counts)

built_settles : (s : Stood) (kinds counts : List ℕ) → BuiltAs s (circuit_of kinds counts) (length kinds) (length (cursors_of kinds))
    → Settles s (plan_of kinds) kinds counts
built_settles s kinds counts b =
    let c = circuit_of kinds counts in
    let n = length kinds in
    let k = length (cursors_of kinds) in
    record {
      few = b.few;
      ops_lie = ops_inside s c n k b;
      outputs_lie = outputs_inside s c n k b;
      terms_few = subst (λ (t : ℕ). t < 4294967296) (sym (terms_are s c n k b)) b.terms;
      settled = λ l. settled_is l kinds counts s b;
    }

pub settles : (m : Mem) (kinds counts : List ℕ) → Builds m kinds counts → {p : Plan} {s : Stood}
    → p ≡ plan_of kinds → s ≡ build_in m kinds counts p.nodes p.cursors p.leaves → Settles s p kinds counts
settles m kinds counts b {p} {s} l e =
    let built = build_in m kinds counts (length kinds) (length (cursors_of kinds)) (length (leaves_of kinds)) in
    let d : s ≡ built = e ∙ ap (λ (q : Plan). build_in m kinds counts q.nodes q.cursors q.leaves) l in
    rw (l, d) (built_settles built kinds counts b)

-- the lists were written to storage that was zero, and settled
pub lowered : {s : Stood} {p : Plan} {kinds counts : List ℕ} → Settles s p kinds counts
    → (a b : Storage) (work_nums work_biases work_wires work_coefs : ℕ) {o : Outcome} → Zeroed a
    → b.nums.now ≡ listed_in a.nums.now kinds counts
    → (b.biases.now ≡ a.biases.now) × (b.wires.now ≡ a.wires.now) × (b.coefs.now ≡ a.coefs.now)
    → o ≡ settled_in b.nums.now b.biases.now b.wires.now b.coefs.now s.mem s.builder.ops p.nodes p.cursors p.leaves
    → let l = lent (length a.nums.now) (length a.biases.now) (length a.wires.now) (length a.coefs.now) work_nums work_biases work_wires work_coefs in
    o ≡ compile_tree l (accepted kinds counts)
unfolding list_nums
lowered {s} {p} {kinds} {counts} h a b work_nums work_biases work_wires work_coefs z listed kept e =
    let l = lent (length a.nums.now) (length a.biases.now) (length a.wires.now) (length a.coefs.now) work_nums work_biases work_wires work_coefs in
    let n : b.nums.now ≡ list_nums (length a.nums.now) (lists_of kinds counts) = listed ∙ ap (λ (xs : List ℕ). listed_in xs kinds counts) z.nums in
    let f = kept.0 ∙ z.biases in
    let g = kept.1 ∙ z.wires in
    let c = kept.2 ∙ z.coefs in
    e ∙ (λ i. settled_in (n i) (f i) (g i) (c i) s.mem s.builder.ops p.nodes p.cursors p.leaves) ∙ h.settled l

-- ---- a tree

-- what is lent, where it is enough
record Enough (n : Lent) : Type 0 where
  pub nums : 2176 ≤ n.nums
  pub biases : 896 ≤ n.biases
  pub work_nums : 13920 ≤ n.work_nums
  pub work_biases : 6960 ≤ n.work_biases
  pub work_wires : 262144 ≤ n.work_wires
  pub work_coefs : 262144 ≤ n.work_coefs

roomy_says : (n : Lent) → roomy n ≡ true → Enough n
unfolding roomy
roomy_says n h =
    let a = both_sides _ _ h in
    let b = both_sides _ _ a.1 in
    let c = both_sides _ _ b.1 in
    let d = both_sides _ _ c.1 in
    let e = both_sides _ _ d.1 in
    record {
      nums = leb-true 2176 n.nums a.0;
      biases = leb-true 896 n.biases b.0;
      work_nums = leb-true 13920 n.work_nums c.0;
      work_biases = leb-true 6960 n.work_biases d.0;
      work_wires = leb-true 262144 n.work_wires e.0;
      work_coefs = leb-true 262144 n.work_coefs e.1;
    }

pub refused_is : (t : Parsed) (n : Lent) (s : Storage) {why : Refusal} → Err why ≡ answer_of t
    → s.nums.now ≡ replicate n.nums 0 → s.biases.now ≡ replicate n.biases zero32
    → s.wires.now ≡ replicate n.wires 0 → s.coefs.now ≡ replicate n.coefs zero32
    → outcome_in (Err why) s ≡ compile_tree n t
unfolding compile_tree
refused_is (accepted kinds counts) n s e zn zb zw zc = absurd cc
refused_is (refused told) n s {why} e zn zb zw zc =
    let same : why ≡ told = cc in
    λ i. outcome (Err (same i)) (zn i) (zb i) (zw i) (zc i)

-- a slice of u8 holds bytes
bytes_are : (xs : List ℕ) → ((i : ℕ) → Fits w8 (get_or xs i 0)) → Bytes xs
bytes_are [] h = tt
bytes_are (x ∷ xs) h = (omega (arith, h 0), bytes_are xs (λ (i : ℕ). h (suc i)))

-- the nodes accepted are those in the slots
accepted_is : (t : Parsed) {nodes : ℕ} {ks cs : List ℕ} → ((kinds counts : List ℕ) → t ≡ accepted kinds counts → length counts ≡ length kinds)
    → Ok nodes ≡ answer_of t → ks ≡ kinds_in 128 t → cs ≡ counts_in 128 t → t ≡ accepted (take nodes ks) (take nodes cs)
accepted_is (refused why) l e k c = absurd cc
accepted_is (accepted kinds counts) {nodes} {ks} {cs} l e k c =
    let n : nodes ≡ length kinds = cc in
    let m : nodes ≡ length counts = n ∙ sym (l kinds counts refl) in
    let a : take nodes ks ≡ kinds = (λ i. take (n i) (k i)) ∙ take-append_seam kinds (replicate (128 - length kinds) 0) in
    let b : take nodes cs ≡ counts = (λ i. take (m i) (c i)) ∙ take-append_seam counts (replicate (128 - length counts) 0) in
    λ i. accepted (sym a i) (sym b i)

-- what lowering the accepted nodes goes by
pub record Ready (bytes ks cs : List ℕ) (nodes : ℕ) (m : Mem) : Type 0 where
  pub tree : tree_of bytes ≡ accepted (take nodes ks) (take nodes cs)
  pub builds : Builds m (take nodes ks) (take nodes cs)

pub ready : (s : Storage) (w : WorkRoom) → roomy (lent_in s w) ≡ true → (bytes : List ℕ) → ((i : ℕ) → Fits w8 (get_or bytes i 0))
    → {ks cs : List ℕ} {nodes : ℕ} → let t = flat_of 128 128 bytes in
    Ok nodes ≡ answer_of t → ks ≡ kinds_in 128 t → cs ≡ counts_in 128 t
    → Ready bytes ks cs nodes (mem w.wires.now w.coefs.now w.nums.now w.biases.now)
unfolding flat_of
ready s w h bytes low {ks} {cs} {nodes} e k c =
    let m = mem w.wires.now w.coefs.now w.nums.now w.biases.now in
    let n = roomy_says (lent_in s w) h in
    let whole : Whole m.nums m.biases = (omega (arith, n.work_nums), omega (arith, n.work_biases)) in
    let b = buildable m bytes (bytes_are bytes low) whole (omega (arith, n.work_wires, n.work_coefs)) in
    let t = accepted_is (tree_of bytes) b.counted e k c in
    record { tree = t; builds = b.builds _ _ t }

-- What the writing of ops and output forms leaves, one after the other.
use Rattle.std.proofs.Common.{◌≡◌, ℕ, suc, ◌+◌, ◌-◌, ◌≤◌, ◌<◌, List, Float, set, arith}
use Rattle.wire.specs.declared.Form.{Form}
use Rattle.wire.specs.Terms.{terms_of}
use Rattle.arena_terms.specs.Steps.{Put}
use Rattle.builder_table.specs.Work.{Mem}
use Rattle.lower_emit.specs.Emit.{Image, image, form_in, op_at, ops_in, output_at, outputs_in}
use Rattle.lower_emit.proofs.Copied.{copied_next}
use Rattle.lower_emit.proofs.Counted.{counting_ops, counting_outputs}

-- ---- a form

pub form_made : (nums : List ℕ) (biases : List Float) (fw : List ℕ) (fc : List Float) (f : Form) (at bias : ℕ)
    {ws : List ℕ} {cs : List Float} {next : ℕ} {nums' : List ℕ} {biases' : List Float} {ws' : List ℕ} {cs' : List Float} {k : ℕ}
    → nums' ≡ set (set nums at next) (at + 1) f.len → biases' ≡ set biases bias f.bias → Put ws cs next (terms_of fw fc f) ws' cs' k
    → image nums' biases' ws' cs' k ≡ form_in (image nums biases ws cs next) fw fc f at bias
unfolding form_in
form_made nums biases fw fc f at bias d e p = λ i. image (d i) (e i) (p.wires i) (p.coefs i) (copied_next fw fc f p i)

-- ---- the ops from one on, then the output forms from one on

module _ (e : Image) (m : Mem) (k n : ℕ) where
  pub ops_in_step : k < n → ops_in e m k (n - k) ≡ ops_in (op_at e m k) m (k + 1) (n - (k + 1))
  unfolding ops_in
  ops_in_step h =
      let l : n - k ≡ suc (n - (k + 1)) = omega arith in
      rw l

  pub ops_in_done : n ≤ k → ops_in e m k (n - k) ≡ e
  unfolding ops_in
  ops_in_done h =
      let l : n - k ≡ 0 = omega arith in
      rw l

module _ (e : Image) (m : Mem) (nodes k n : ℕ) where
  pub outputs_in_step : k < n → outputs_in e m nodes k (n - k) ≡ outputs_in (output_at e m nodes k) m nodes (k + 1) (n - (k + 1))
  unfolding outputs_in
  outputs_in_step h =
      let l : n - k ≡ suc (n - (k + 1)) = omega arith in
      rw l

  pub outputs_in_done : n ≤ k → outputs_in e m nodes k (n - k) ≡ e
  unfolding outputs_in
  outputs_in_done h =
      let l : n - k ≡ 0 = omega arith in
      rw l

pub ruleset writing_ops = (counting_ops, ops_in_step, ops_in_done)

pub ruleset writing_outputs = (counting_outputs, outputs_in_step, outputs_in_done)

-- The turns of counting: what is left to count, from one op or output form on.
use Rattle.std.proofs.Common.{◌≡◌, ℕ, suc, ◌+◌, ◌-◌, ◌≤◌, ◌<◌, List, arith}
use Rattle.lower_emit.specs.Emit.{output_slot, len_at, op_len, op_lens, output_lens}

module _ (nums : List ℕ) (k n : ℕ) where
  pub op_lens_step : k < n → op_lens nums k (n - k) ≡ op_len nums k + op_lens nums (k + 1) (n - (k + 1))
  unfolding op_lens
  op_lens_step h =
      let l : n - k ≡ suc (n - (k + 1)) = omega arith in
      rw l

  pub op_lens_done : n ≤ k → op_lens nums k (n - k) ≡ 0
  unfolding op_lens
  op_lens_done h =
      let l : n - k ≡ 0 = omega arith in
      rw l

module _ (nums : List ℕ) (nodes k n : ℕ) where
  pub output_lens_step : k < n → output_lens nums nodes k (n - k) ≡ len_at nums (output_slot nodes k) + output_lens nums nodes (k + 1) (n - (k + 1))
  unfolding output_lens
  output_lens_step h =
      let l : n - k ≡ suc (n - (k + 1)) = omega arith in
      rw l

  pub output_lens_done : n ≤ k → output_lens nums nodes k (n - k) ≡ 0
  unfolding output_lens
  output_lens_done h =
      let l : n - k ≡ 0 = omega arith in
      rw l

pub ruleset counting_ops = (op_lens_step, op_lens_done)

pub ruleset counting_outputs = (output_lens_step, output_lens_done)

-- A record that is written is read as it was written.
use Rattle.std.proofs.Common.{◌≡◌, List, [], ◌++◌, ℕ, ◌+◌, ◌*◌, ◌-◌, ◌/◌, ◌%◌, length, take, drop, sym, ◌∙◌, ap, append-nil, arith, le-ltb}
use Rattle.std.proofs.Common.{length-append, take_at, drop_at, take_all}
use Rattle.list_text.specs.declared.outer.Outer.TheVariants.{Whole}
use Rattle.list_text.specs.Outer.{outer_at}
use Rattle.list_laws.specs.Lines.{outer_record}

number : (n : ℕ) → n % 256 + 256 * (n / 256) ≡ n
number n = omega arith

module _ (kind : ℕ) (payload : List ℕ) where
  -- where the record ends
  abbrev pub ends : ℕ
  ends = 2 + (2 + length payload)

  pub record_length : length (outer_record kind payload) ≡ ends
  record_length = omega arith

  module _ (more : List ℕ) where
    pub record_read : outer_at (outer_record kind payload ++ more) 0 ≡ Whole kind 4 ends
    unfolding outer_at
    record_read =
        let size = number (2 + length payload) in
        let n = length-append payload more in
        let a = le-ltb (length (outer_record kind payload ++ more) - 0) 2 (omega arith) in
        let b = le-ltb (2 + length payload) 2 (omega arith) in
        let c = le-ltb (length (outer_record kind payload ++ more) - 0 - 2) (2 + length payload) (omega arith) in
        rw (size, number kind, a, b, c)

    pub record_payload : take (ends - 4) (drop 4 (outer_record kind payload ++ more)) ≡ payload
    record_payload = take_at payload more (ends - 4) (omega arith)

    pub record_rest : drop ends (outer_record kind payload ++ more) ≡ more
    record_rest = drop_at (outer_record kind payload) more ends record_length

  -- with nothing after it
  pub record_alone : outer_at (outer_record kind payload) 0 ≡ Whole kind 4 ends
  record_alone = ap (λ (l : List ℕ). outer_at l 0) (sym (append-nil (outer_record kind payload))) ∙ record_read []

  pub payload_alone : take (ends - 4) (drop 4 (outer_record kind payload)) ≡ payload
  payload_alone = take_all (ends - 4) payload (omega arith)

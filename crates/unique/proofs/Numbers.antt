-- Numbers and places: each contract permits one outcome.
--
--   exact: of_cursor        the cursor, at most 65,535, as a float
--   exact: positive_part    relu, specs/Tests
--   exact: is_bit           is_bit, specs/Tests
--   exact: is_natural       natural, specs/Tests
--   exact: is_small         small, specs/Tests
--   exact: is_coefficient   coefficient, specs/Tests
--   exact: count            count_of, specs/Tests
--   index: Wire::position   its number
use mathlib.Core.Path.{refl, ◌∙⁻¹◌}
use Rattle.exact.proofs.of_cursor
use Rattle.exact.specs.contracts.of_cursor as of_cursor_contract
use Rattle.exact.proofs.positive_part
use Rattle.exact.specs.contracts.positive_part as positive_part_contract
use Rattle.exact.proofs.is_bit
use Rattle.exact.specs.contracts.is_bit as is_bit_contract
use Rattle.exact.proofs.is_natural
use Rattle.exact.specs.contracts.is_natural as is_natural_contract
use Rattle.exact.proofs.is_small
use Rattle.exact.specs.contracts.is_small as is_small_contract
use Rattle.exact.proofs.is_coefficient
use Rattle.exact.specs.contracts.is_coefficient as is_coefficient_contract
use Rattle.exact.proofs.count
use Rattle.exact.specs.contracts.count as count_contract
use Rattle.index.proofs.Wire.position
use Rattle.index.specs.contracts.Wire.position as position_contract
use Rattle.unique.specs.One.{One}

pub one_of_cursor : One of_cursor_contract.ended of_cursor.Reads.Post
one_of_cursor κs a x y u v p q = (p ∙⁻¹ q, refl)

pub one_positive_part : One positive_part_contract.ended positive_part.Reads.Post
one_positive_part κs a x y u v p q = (p ∙⁻¹ q, refl)

pub one_is_bit : One is_bit_contract.ended is_bit.Reads.Post
one_is_bit κs a x y u v p q = (p ∙⁻¹ q, refl)

pub one_is_natural : One is_natural_contract.ended is_natural.Reads.Post
one_is_natural κs a x y u v p q = (p ∙⁻¹ q, refl)

pub one_is_small : One is_small_contract.ended is_small.Reads.Post
one_is_small κs a x y u v p q = (p ∙⁻¹ q, refl)

pub one_is_coefficient : One is_coefficient_contract.ended is_coefficient.Reads.Post
one_is_coefficient κs a x y u v p q = (p ∙⁻¹ q, refl)

pub one_count : One count_contract.ended count.Reads.Post
one_count κs a x y u v p q = (p ∙⁻¹ q, refl)

pub one_position : One position_contract.ended position.Reads.Post
one_position κs a x y u v p q = (p ∙⁻¹ q, refl)

-- What the tests of one float ask, by the number that it stands for. A float is `nan`, an infinity, or `fin s m e`: m * up e / down e, negative where s is true.
-- Zero has either sign, and -0 passes each of these tests as 0 does. Definitions only.
use Rattle.std.specs.Prelude.{Bool, false, not, ◌&&◌, ◌||◌, cond, ℕ, ◌*◌, ◌/◌, ◌%◌, leb, eqb, Float}
use Rattle.std.specs.Float.{nan, inf, fin}
use Rattle.std.specs.Float.Ieee.{up, down, lt, le, eq}
use Rattle.exact.specs.Whole.{zero32, cursor_most32}

-- "success, failure, running are bits": 0 or 1
unfoldable pub is_bit : Float → Bool
is_bit nan = false
is_bit (inf s) = false
is_bit (fin s m e) = eqb (m * up e) 0 || (not s && eqb (m * up e) (down e))

-- "neither negative nor fractional, where NaN and the infinities count as fractional"
unfoldable pub natural : Float → Bool
natural nan = false
natural (inf s) = false
natural (fin s m e) = (not s || eqb m 0) && eqb (m * up e % down e) 0

-- a bias: not "a coefficient or bias is not whole or exceeds 65,536 in size"
unfoldable pub small : Float → Bool
small nan = false
small (inf s) = false
small (fin s m e) = eqb (m * up e % down e) 0 && leb (m * up e) (65536 * down e)

-- a coefficient: nor "a coefficient is zero"
unfoldable pub coefficient : Float → Bool
coefficient x = not (eq x zero32) && small x

-- max(0, x), "where a NaN gate counts as 0"; never -0
unfoldable pub relu : Float → Float
relu x = cond (lt zero32 x) x zero32

-- the whole part of a float's size; 0 where it has none
unfoldable pub whole_size : Float → ℕ
whole_size nan = 0
whole_size (inf s) = 0
whole_size (fin s m e) = m * up e / down e

-- The number of a next cursor. 65,536 stands for every float that is not a natural number of at most 65,535.
unfoldable pub count_of : Float → ℕ
unfolding natural whole_size
count_of x = cond (natural x && le x cursor_most32) (whole_size x) 65536

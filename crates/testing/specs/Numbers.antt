-- Whole numbers with room, as the test programs compute them.
--   natural_of z       z, and 0 where it is negative
--   factorial_of n     n!, and 0 where n is above 20
--   has_room z         z lies between -2^62 and 2^62
--   sum_of x y         x + y, and 0 where one of them does not
use Rattle.std.specs.Prelude.{◌&&◌, ◌^◌, ◌+ℤ◌}
use Rattle.theory.specs.Basics.{Bool, cond, ℕ, ◌<?◌, ℤ, pos, negsuc, nat_abs}
use Rattle.theory.specs.Bounds.{factorial}
use Rattle.theory.specs.Bounds.Laws.{largest_limit}

abbrev pub natural_of : ℤ → ℕ
natural_of (pos n) = n
natural_of (negsuc n) = 0

abbrev pub factorial_of : ℕ → ℕ
factorial_of n = cond (largest_limit <? n) 0 (factorial n)

abbrev pub has_room : ℤ → Bool
has_room z = nat_abs z <? 2 ^ 62

abbrev pub sum_of : ℤ → ℤ → ℤ
sum_of x y = cond (has_room x && has_room y) (x +ℤ y) (pos 0)

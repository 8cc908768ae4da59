-- Leading ones as code counts and drops them: a word is shifted by one, so that digit 1 comes to bit 31, and the
-- leading zeros of its complement are counted; then it is shifted by as many, and bit 31 left out.
--   ones_before t   how many ones begin the 31 digits of the word t
--   ones_out t      the word t with these ones shifted out
-- Of the library: count_leading_zeros n x is how many zeros begin the n digits of x.
use Rattle.std.specs.Prelude.{◌-◌, ◌*◌, ◌%◌, ◌^◌}
use Rattle.std.specs.Int.Count.{count_leading_zeros}
use Rattle.theory.specs.Basics.{ℕ}

unfoldable pub ones_before : ℕ → ℕ
ones_before t = count_leading_zeros 32 ((2 ^ 32 - 1) - t * 2 % 2 ^ 32)

unfoldable pub ones_out : ℕ → ℕ
ones_out t = t * 2 ^ ones_before t % 2 ^ 32 % 2 ^ 31

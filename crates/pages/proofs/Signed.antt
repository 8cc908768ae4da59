-- Signed numbers of 64 bits: the sum of two numbers that have room together is the whole numbers' sum.
--   carried z   what 64 bits make of the whole number z: z itself, if its size is below 2^63
use mathlib.Core.Path.{◌≡◌, refl}
use mathlib.Core.Bool.{not}
use Prim.Native.Nat.{◌+◌, ◌^◌, ◌<◌}
use native.Mathlib.Omega.{arith}
use lib.IntN.{ℤ, pos, negsuc, ◌+ℤ◌, nat_abs}
use lib.Signed.{non_neg, lt_z}
use borrow.Author.Tests.{le-ltb}
use mir.Facts.{to_z-of_z}
use mir.Syntax.{w64}
use mir.Val.{SFits, to_z, of_z}
use Rattle.theory.proofs.Bounds.Laws.{abs-add}

abbrev pub carried : ℤ → ℤ
carried z = to_z w64 (of_z w64 z)

pub room : (z : ℤ) → nat_abs z < 2 ^ 63 → SFits w64 z
room (pos n) l = record { sfits = l }
room (negsuc n) l = record { sfits = omega arith }

pub carried-is : (z : ℤ) → nat_abs z < 2 ^ 63 → carried z ≡ z
carried-is z l = to_z-of_z (room z l)

pub sum_is : (x y : ℤ) → nat_abs x + nat_abs y < 2 ^ 63 → carried (carried x +ℤ carried y) ≡ x +ℤ y
sum_is x y small =
    rw (carried-is x (omega arith), carried-is y (omega arith)) (carried-is (x +ℤ y) (omega (arith, abs-add x y)))

-- the test for a number below 0
pub below-zero : (z : ℤ) → SFits w64 z → lt_z (carried z) (pos 0) ≡ not (non_neg z)
below-zero (pos n) s = rw (to_z-of_z s) (le-ltb n 0 (omega arith))
below-zero (negsuc n) s = rw (to_z-of_z s) refl

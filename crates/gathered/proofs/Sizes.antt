-- Sums of whole numbers that have room, as 64 bits make them and test them for 0.
use Rattle.std.specs.Prelude.{◌+◌, ◌^◌, ◌+ℤ◌}
use mathlib.Core.Path.{◌≡◌, refl, sym, ◌∙◌, ap, ap₂}
use Prim.Native.Nat.{◌<◌}
use native.Mathlib.Omega.{arith}
use mir.Facts.{to_z-of_z}
use mir.Syntax.{w64}
use mir.Val.{SFits, to_z, of_z}
use Rattle.theory.specs.Basics.{ℤ, pos, negsuc, nat_abs}
use Rattle.pages.proofs.Signed.{carried, carried-is, sum_is}

-- a number that is not 0 in 64 bits has a size
pub some_size : (z : ℤ) → (of_z w64 z ≡ 0 → ⊥) → nat_abs z ≡ 0 → ⊥
some_size (pos n) f e = f (rw e refl)
some_size (negsuc n) f e = omega arith

pub no_size : (z : ℤ) → SFits w64 z → of_z w64 z ≡ 0 → nat_abs z ≡ 0
no_size z fits e = ap nat_abs (sym (to_z-of_z fits) ∙ ap (to_z w64) e)

module _ (a b r : ℤ) (small : nat_abs a + nat_abs b < 2 ^ 63) where
  module _ (e : r ≡ carried a +ℤ carried b) where
    pub added : carried r ≡ a +ℤ b
    added = ap carried e ∙ sum_is a b small

    pub sum-none : of_z w64 r ≡ 0 → nat_abs (a +ℤ b) ≡ 0
    sum-none z = ap nat_abs (sym added ∙ ap (to_z w64) z)

    pub sum-some : (of_z w64 r ≡ 0 → ⊥) → nat_abs (a +ℤ b) ≡ 0 → ⊥
    sum-some f z =
        let is : r ≡ a +ℤ b = e ∙ ap₂ ◌+ℤ◌ (carried-is a (omega arith)) (carried-is b (omega arith)) in
        some_size r f (ap nat_abs is ∙ z)

-- A product of two signed numbers of 64 bits that has room is the whole numbers' product.
use Rattle.std.specs.Prelude.{◌*ℤ◌, ◌*◌, ◌^◌}
use mathlib.Core.Path.{◌≡◌, ◌∙◌, ap₂}
use Prim.Native.Nat.{◌<◌}
use mir.Facts.{to_z-of_z}
use mir.Syntax.{w64}
use mir.Val.{SFits}
use Rattle.theory.specs.Basics.{ℤ, nat_abs}
use Rattle.theory.proofs.Basics.Integers.Products.{abs-times}
use Rattle.pages.proofs.Signed.{carried, room}

module _ (x y : ℤ) (fits-x : SFits w64 x) (fits-y : SFits w64 y) (small : nat_abs x * nat_abs y < 2 ^ 63) where
  same : carried x *ℤ carried y ≡ x *ℤ y
  same = ap₂ ◌*ℤ◌ (to_z-of_z fits-x) (to_z-of_z fits-y)

  pub product-fits : SFits w64 (carried x *ℤ carried y)
  product-fits = rw same (room (x *ℤ y) (rw (abs-times x y) small))

  pub product_is : carried (carried x *ℤ carried y) ≡ x *ℤ y
  product_is = to_z-of_z product-fits ∙ same

-- A number of 64 bits times a sign is the number with that sign, and has room.
use Rattle.std.specs.Prelude.{◌+◌, ◌+ℤ◌, ◌*ℤ◌, ◌^◌}
use mathlib.Core.Path.{◌≡◌, refl, ◌∙◌}
use Prim.Native.Nat.{◌<◌}
use native.Mathlib.Omega.{arith}
use mir.Facts.{to_z-of_z}
use mir.Syntax.{w64}
use mir.Val.{SFits}
use Rattle.theory.specs.Basics.{Bool, ℤ, pos, nat_abs, signed}
use Rattle.theory.proofs.Basics.Integers.Products.{times-signed, times-one}
use Rattle.theory.proofs.Bounds.Laws.{abs-add, abs-signed}
use Rattle.pages.proofs.Signed.{carried, carried-is, room}

module _ (minus : Bool) (z : ℤ) (small : nat_abs z < 2 ^ 63) where
  same : z *ℤ carried (signed minus (pos 1)) ≡ signed minus z
  same =
      rw (carried-is (signed minus (pos 1)) (omega (arith, abs-signed minus (pos 1))))
      (times-signed minus z (pos 1) ∙ times-one (signed minus z))

  fits : SFits w64 (signed minus z)
  fits = room (signed minus z) (omega (arith, abs-signed minus z, small))

  pub sign_fits : SFits w64 (z *ℤ carried (signed minus (pos 1)))
  sign_fits = rw same fits

  pub sign-is : carried (z *ℤ carried (signed minus (pos 1))) ≡ signed minus z
  sign-is = to_z-of_z sign_fits ∙ same

-- the number that is the value of what a hook leaves, times the hook's sign, added to a sum beside which it has room
pub record Counted (so_far value : ℤ) (minus : Bool) (number sign : ℤ) : Type 0 where
  pub fits : SFits w64 (carried number *ℤ carried sign)
  pub sum-fits : SFits w64 (so_far +ℤ carried (carried number *ℤ carried sign))
  pub adds : carried (so_far +ℤ carried (carried number *ℤ carried sign)) ≡ carried (so_far +ℤ signed minus (carried value))

pub counted : (so_far value : ℤ) (minus : Bool) {number sign : ℤ} → number ≡ value → sign ≡ signed minus (pos 1)
    → nat_abs so_far + nat_abs (carried value) < 2 ^ 63 → Counted so_far value minus number sign
counted so_far value minus {number} {sign} is of-sign small =
    let same = sign-is minus (carried value) (omega arith) in
    record {
      fits = rw (is, of-sign) (sign_fits minus (carried value) (omega arith));
      sum-fits = rw (is, of-sign, same) (room (so_far +ℤ signed minus (carried value))
          (omega (arith, abs-add so_far (signed minus (carried value)), abs-signed minus (carried value))));
      adds = rw (is, of-sign, same) refl;
    }

-- The laws of the plain form: a sign tells a weight of 1 or -1.
use Rattle.std.specs.Prelude.{◌≡◌, refl, ◌++◌}
use Rattle.std.proofs.Common.{arith}
use Rattle.std.specs.Int.Signed.{non_neg}
use Rattle.theory.specs.Basics.{Bool, true, false, not, length, ℤ, zero, suc, pos, negsuc, nat_abs, signed}
use Rattle.theory.proofs.Bounds.Laws.{abs-signed}
use Rattle.text.specs.Text.{ascii}
use Rattle.textreading.specs.Reading.{holds}
use Rattle.textreading.specs.Reading.Bytes.{Within}
use Rattle.pages.specs.Lawful.Plain.{plain-lawful}
use Rattle.sessiontext.specs.SessionText.{sign_text, plain_form}
use Rattle.sessiontext.specs.SessionText.Faithful.{Faithful}

-- the sign of a line whose weight is 1 or -1
pub sign_kept : (w : ℤ) → nat_abs w ≡ 1 → signed (not (non_neg w)) (pos 1) ≡ w
sign_kept (pos zero) e = absurd (omega arith)
sign_kept (pos (suc zero)) e = refl
sign_kept (pos (suc (suc n))) e = absurd (omega arith)
sign_kept (negsuc zero) e = refl
sign_kept (negsuc (suc n)) e = absurd (omega arith)

pub sign_read : (minus : Bool) → not (non_neg (signed minus (pos 1))) ≡ minus
sign_read true = refl
sign_read false = refl

pub sign-length : (minus : Bool) → length (sign_text minus) ≡ 1
sign-length true = omega arith
sign-length false = omega arith

pub sign-told : (minus : Bool) → holds 45 (ascii "line=" ++ sign_text minus) ≡ minus
sign-told true = refl
sign-told false = refl

pub sign-within : (minus : Bool) → Within 43 57 (sign_text minus)
sign-within true = ((omega arith, omega arith), tt)
sign-within false = ((omega arith, omega arith), tt)

unfoldable pub plain-faithful : Faithful plain_form
unfolding plain-lawful
plain-faithful = record {
  law = plain-lawful;
  front-lines = tt;
  front-short = omega arith;
  Kept = λ z. nat_abs z ≡ 1;
  kept-fits = λ z k. refl;
  fits_kept = λ t e. abs-signed (holds 45 t) (pos 1);
  weight-back = λ z k. rw (sign-told (not (non_neg z))) (sign_kept z k);
  weight-within = λ z. sign-within (not (non_neg z));
  weight_room = 1;
  weight-short = λ z k. omega (arith, sign-length (not (non_neg z)));
  kept-written = λ l k shape class. record { unit = k; shape-fits = shape; class-fits = class };
  written-kept = λ l w small. w.unit;
}

-- The laws of the gathered form: a decimal with its minus tells a coefficient that a signed number of 64 bits holds.
use Rattle.std.specs.Prelude.{◌≡◌, refl, ◌<◌, ◌++◌, ◌^◌}
use Rattle.std.proofs.Common.{sym, ◌∙◌, ap, append-nil, arith, ltb-true, lt-ltb}
use Rattle.theory.specs.Basics.{true, [], ℤ, pos, negsuc, nat_abs, ◌=?◌}
use Rattle.text.specs.Text.{ascii, integer}
use Rattle.text.specs.Text.Decimals.{integer-length}
use Rattle.textreading.specs.Reading.{is_digit, integer_in}
use Rattle.textreading.specs.Reading.Bytes.{each-not, wider, integer-within}
use Rattle.textreading.specs.Reading.Numbers.{integer-back}
use Rattle.textreading.proofs.Reading.Lines.{text-line}
use Rattle.pages.specs.Lawful.Gathered.{gathered-lawful}
use Rattle.sessiontext.specs.SessionText.{held, gathered_form}
use Rattle.sessiontext.specs.SessionText.Faithful.{Faithful}

pub held_small : (z : ℤ) → nat_abs z < 2 ^ 63 → held z ≡ true
held_small (pos n) h = lt-ltb n (2 ^ 63) h
held_small (negsuc n) h = lt-ltb n (2 ^ 63) (omega arith)

pub held-shorter : (z : ℤ) → held z ≡ true → nat_abs z < 10 ^ 19
held-shorter (pos n) h = omega (arith, ltb-true n (2 ^ 63) h)
held-shorter (negsuc n) h = omega (arith, ltb-true n (2 ^ 63) h)

pub held_below : (z : ℤ) → held z ≡ true → nat_abs z < 10 ^ 20
held_below z h = omega (arith, held-shorter z h)

pub coefficient-back : (z : ℤ) → held z ≡ true → integer_in (ascii "line=" ++ integer z) ≡ z
coefficient-back z h =
    ap integer_in (sym (append-nil (ascii "line=" ++ integer z)))
    ∙ integer-back (ascii "line=") [] (each-not is_digit (ascii "line=") refl) tt
    (each-not (◌=? 45) (ascii "line=") refl)
    tt z (held_below z h)

unfoldable pub gathered-faithful : Faithful gathered_form
unfolding gathered-lawful
gathered-faithful = record {
  law = gathered-lawful;
  front-lines = (
    text-line (ascii "mode=") (ascii "gathered") (each-not (◌=? 10) (ascii "mode=") refl)
        (each-not (◌=? 10) (ascii "gathered") refl),
    tt,
  );
  front-short = omega arith;
  Kept = λ z. held z ≡ true;
  kept-fits = λ z k. k;
  fits_kept = λ t e. e;
  weight-back = coefficient-back;
  weight-within = λ z. wider 43 57 (integer z) (omega arith) (omega arith) (integer-within z);
  weight_room = 20;
  weight-short = λ z k. integer-length z 18 (held-shorter z k);
  kept-written = λ l k shape class. class;
  written-kept = λ l w small. held_small l.weight small;
}

-- A signed number that is read off a line, written out and compared with it.
use Rattle.std.specs.Prelude.{◌+◌, ◌^◌, Option, None, Some}
use mathlib.Core.Path.{◌≡◌, sym, ◌∙◌, ap}
use mathlib.Core.Bool.{false≢true}
use Prim.Native.Nat.{◌≤◌, min}
use native.Mathlib.Decide.{dec_le}
use native.Mathlib.Nat.{lt_of_not-le}
use native.Mathlib.Omega.{arith}
use borrow.Author.Tests.{lt-ltb, le-ltb, ltb-true}
use mir.Facts.{to_z-of_z}
use mir.Syntax.{w64}
use mir.Val.{to_z, of_z}
use Rattle.theory.specs.Basics.{Bool, true, false, cond, ℕ, zero, suc, ℤ, pos, neg_ℤ}
use Rattle.theory.specs.Basics.{length, drop, ◌<?◌}
use Rattle.theory.proofs.Basics.Keep.{same_test}
use Rattle.text.specs.Text.{Text, ascii, integer, field}
use Rattle.text.specs.Text.Decimals.{integer-length}
use Rattle.text.specs.Wrote.{most, Wrote}
use Rattle.textreading.specs.Reading.{number_in, holds, before, integer_in}
use Rattle.textreading.specs.Reading.Bytes.{byte-found, byte-missing}
use Rattle.sessiontext.specs.SessionText.{held}
use Rattle.sessiontext.specs.SessionText.Room.{line-length}
use Rattle.sessiontext.specs.Reading.{is_integer}
use Rattle.sessiontext.specs.Reading.Forms.{is-integer, integer-is}
use Rattle.sessiontext.specs.SessionText.Faithful.Gathered.{held_below}
use Rattle.sessiontext.specs.Private.Read.{ReadSigned, ReadInteger}
use Rattle.sessiontext.proofs.Own.{Own, own}
use Rattle.sessiontext.proofs.Words.{held_fits}
use Rattle.sessiontext.proofs.Told.{Compared}

-- ---- a line
pub found-minus : (t : Text) {place : ℕ} → place ≡ 0 + length (before 45 (drop 0 t)) → place <? length t ≡ holds 45 t
found-minus t {place} e = elim (dec_le (length t) place) [
  | yes l ↦ le-ltb place (length t) l ∙ sym (byte-missing 45 t (omega arith))
  | no g ↦
      let h = lt_of_not-le g in
      lt-ltb place (length t) h ∙ sym (byte-found 45 t (omega arith)).0
]

abbrev signed : Bool → ℕ → ℤ
signed minus n = cond minus (neg_ℤ (pos n)) (pos n)

held_small : (minus : Bool) (n : ℕ) → held (signed minus n) ≡ true → n ≤ 2 ^ 63
held_small true zero h = omega arith
held_small true (suc n) h = omega (arith, ltb-true n (2 ^ 63) h)
held_small false n h = omega (arith, ltb-true n (2 ^ 63) h)

-- what is cut off at the greatest number is not held
uncut : (minus : Bool) (n : ℕ) → held (signed minus (min n most)) ≡ true → min n most ≡ n
uncut minus n h = omega (arith, held_small minus (min n most) h)

not-cut : (minus : Bool) (n : ℕ) → held (signed minus n) ≡ true → min n most ≡ n
not-cut minus n h = omega (arith, held_small minus n h)

module _ (t : Text) where
  abbrev cut_off : ℤ
  cut_off = signed (holds 45 t) (min (number_in t) most)

  its-number : held cut_off ≡ true → cut_off ≡ integer_in t
  unfolding integer_in
  its-number h = rw (uncut (holds 45 t) (number_in t) h)

  cut-held : held (integer_in t) ≡ true → held cut_off ≡ true
  unfolding integer_in
  cut-held h = rw (not-cut (holds 45 t) (number_in t) h) h

  not-held : held cut_off ≡ false → held (integer_in t) ≡ false
  not-held e = same_test (held (integer_in t)) false (λ h. absurd (false≢true (sym e ∙ cut-held h))) (λ b. absurd (false≢true b))

  pub integer-read : (r : Option ℤ) → ReadSigned (holds 45 t) (min (number_in t) most) r → ReadInteger t r
  integer-read None e = not-held e
  integer-read (Some z) e = (ap held (sym (its-number e.0)) ∙ e.0, e.1 ∙ its-number e.0)

  pub settled-unread : held (integer_in t) ≡ false → is_integer (ascii "settled=") t ≡ false
  settled-unread e =
      same_test (is_integer (ascii "settled=") t) false
      (λ f. absurd (false≢true (sym e ∙ (is-integer (ascii "settled=") t f).fits))) (λ b. absurd (false≢true b))

  module _ {z : ℤ} (fits : held (integer_in t) ≡ true) (e : z ≡ integer_in t) where
    -- as a call hands it on to another
    pub settled-kept : to_z w64 (of_z w64 z) ≡ z
    settled-kept = to_z-of_z {w = w64} (held_fits z (rw e fits))

    settled-short : length (field "settled=" (integer z)) ≤ 32
    settled-short =
        omega (
          arith,
          line-length (ascii "settled=") (integer z),
          integer-length z 19 (held_below z (rw e fits)),
        )

    pub settled-own : {before bytes : Text} {end : ℕ}
        → Wrote (field "settled=" (integer (to_z w64 (of_z w64 z)))) 0 before end bytes → length before ≡ 32
        → Own (field "settled=" (integer z)) end bytes
    settled-own w room = own (rw settled-kept at w) (omega (arith, settled-short)) (omega arith)

    pub settled-line : {b : Bool} → Compared b t (field "settled=" (integer z)) → b ≡ is_integer (ascii "settled=") t
    settled-line {b} c =
        same_test b (is_integer (ascii "settled=") t)
        (λ f. integer-is (record { fits = fits; whole = rw (← e) (c.0 f) }))
        (λ f. c.1 (rw e (is-integer (ascii "settled=") t f).whole))

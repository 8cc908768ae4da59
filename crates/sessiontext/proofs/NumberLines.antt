-- A number that is read off a line, written out and compared with it: it can be no other number's line.
use Rattle.std.specs.Prelude.{◌^◌, Option, Result, Ok, Err}
use Rattle.std.specs.Bool.{then_some}
use Rattle.std.specs.Result.{OkIff, result_ok}
use mir.Syntax.{w64}
use mir.Val.{SFits}
use borrow.Author.Rules.{sfits_of}
use native.Mathlib.Decide.{dec_le}
use native.Mathlib.Nat.{lt_of_not-le}
use mathlib.Core.Path.{◌≡◌, sym, ◌∙◌, ap}
use mathlib.Core.Bool.{false≢true}
use Prim.Native.Nat.{◌≤◌, min}
use native.Mathlib.Omega.{arith}
use Rattle.theory.specs.Basics.{Bool, true, false, ℕ, ℤ, pos, length}
use Rattle.theory.proofs.Basics.Keep.{same_test}
use Rattle.text.specs.Text.{Text, ascii, decimal, text_line}
use Rattle.text.specs.Wrote.{most}
use Rattle.textreading.specs.Reading.{number_in}
use Rattle.sessiontext.specs.SessionText.Room.{number-length}
use Rattle.sessiontext.specs.Reading.{is_number}
use Rattle.sessiontext.specs.Reading.Forms.{is-number, number_is}
use Rattle.sessiontext.specs.Reading.Fields.{number-line}
use Rattle.sessiontext.specs.Private.Read.{Named, ReadNumber, ReadSteps}
use Rattle.sessiontext.proofs.Told.{Compared, told}

module _ {name : Text} (named : Named name) where
  pub number_short : (n : ℕ) → length (text_line name (decimal n)) ≤ 32
  number_short n = omega (arith, number-length name n, named.short)

  module _ {t : Text} {n : ℕ} (e : n ≡ min (number_in t) most) {b : Bool}
      (c : Compared b t (text_line name (decimal n))) where
    own-number : b ≡ true → n ≡ number_in t
    own-number f = sym (ap number_in (c.0 f) ∙ number-line name named.silent n (omega arith))

    is-its-line : b ≡ is_number name (2 ^ 64) t
    is-its-line =
        same_test b (is_number name (2 ^ 64) t)
        (λ f. let n = own-number f in number_is (record { small = omega arith; whole = rw (← n) (c.0 f) }))
        (λ f. let line = is-number name (2 ^ 64) t f in
        let held : n ≡ number_in t = omega (arith, line.small) in
        c.1 (rw held line.whole))

    pub number_read : {r : Option ℕ} → r ≡ then_some b n → ReadNumber name t r
    number_read r = told r is-its-line own-number

-- ---- steps, held with a sign too
module _ (t : Text) where
  not-steps : (is_number (ascii "steps=") (2 ^ 64) t ≡ true → 2 ^ 63 ≤ number_in t)
      → is_number (ascii "steps=") (2 ^ 63) t ≡ false
  not-steps n =
      same_test (is_number (ascii "steps=") (2 ^ 63) t) false
      (λ f. let line = is-number (ascii "steps=") (2 ^ 63) t f in
      absurd (omega (arith, line.small, n (number_is (record { small = omega (arith, line.small); whole = line.whole })))))
      (λ b. absurd (false≢true b))

  pub steps-unread : is_number (ascii "steps=") (2 ^ 64) t ≡ false → is_number (ascii "steps=") (2 ^ 63) t ≡ false
  steps-unread e = not-steps (λ f. absurd (false≢true (sym e ∙ f)))

  pub steps-read : {E : Type 0} {n : ℕ} (r : Result ℤ E) → OkIff r (SFits w64 (pos n)) (pos n)
      → is_number (ascii "steps=") (2 ^ 64) t ≡ true → n ≡ number_in t → ReadSteps t (result_ok r)
  steps-read (Ok z) o f e =
      let line = is-number (ascii "steps=") (2 ^ 64) t f in
      let small = o.0.sfits in
      (number_is (record { small = omega arith; whole = line.whole }), o.1 ∙ ap pos e)
  steps-read (Err x) o f e =
      not-steps (λ g. elim (dec_le (2 ^ 63) (number_in t)) [
        | yes l ↦ l
        | no l ↦ absurd (o (sfits_of (omega (arith, lt_of_not-le l))))
      ])

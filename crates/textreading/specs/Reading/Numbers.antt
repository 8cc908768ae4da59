-- A number is read back from its decimal text, also between texts without digits.
use Rattle.std.specs.Prelude.{◌≡◌, refl, ◌<◌, min, ◌∷◌, ◌++◌, ◌+◌, ◌-◌, ◌*◌, ◌/◌, ◌%◌, ◌^◌}
use Rattle.std.proofs.Common.{◌∙◌, ap, append_assoc, lt_of_not-le, pow-suc, arith, lt-ltb, le-ltb, le-leb}
use Rattle.std.proofs.Math.Decide.{dec_le}
use Rattle.theory.specs.Basics.{Bool, true, false, cond, [], ℕ, zero, suc}
use Rattle.theory.specs.Basics.{ℤ, pos, negsuc, neg_ℤ, nat_abs, Each}
use Rattle.theory.proofs.Basics.Laws.{each_append}
use Rattle.text.specs.Text.{Text, ascii, decimal_in, decimal, integer}
use Rattle.text.specs.Wrote.{most}
use Rattle.textreading.specs.Reading.{is_digit, step, number_from, number_in, holds, integer_in}
use Rattle.textreading.specs.Reading.Bytes.{Without, without, holds-none, decimal-within}

--   Silent t   no byte of t is a digit
abbrev pub Silent : Text → Type 0
Silent t = Each (λ b. is_digit b ≡ false) t

pub number_append : (n : ℕ) (t u : Text) → number_from n (t ++ u) ≡ number_from (number_from n t) u
number_append n [] u = refl
number_append n (b ∷ t) u = number_append (step n b) t u

pub number-silent : (n : ℕ) (t : Text) → Silent t → number_from n t ≡ n
number-silent n [] s = refl
number-silent n (b ∷ t) s = rw s.0 (number-silent n t s.1)

-- what was cut off at the greatest number is cut off again
pub step-most : (n b : ℕ) → min (step (min n most) b) most ≡ min (step n b) most
step-most n b = go (is_digit b)
  where
    go : (d : Bool) → min (cond d (min n most * 10 + (b - 48)) (min n most)) most
        ≡ min (cond d (n * 10 + (b - 48)) n) most
    go true = omega arith
    go false = omega arith

number-digit : (n d : ℕ) → d < 10 → number_from n ((48 + d) ∷ []) ≡ n * 10 + d
number-digit n d h =
    let e : 48 + d - 48 ≡ d = omega arith in
    rw (le-leb 48 (48 + d) (omega arith), le-leb (48 + d) 57 (omega arith), e)

digits-back : (k n : ℕ) → n < 10 ^ suc k → number_from 0 (decimal_in (suc k) n) ≡ n
digits-back zero n h =
    rw (lt-ltb n 10 h) (number-digit 0 (n % 10) (omega arith) ∙ omega arith)
digits-back (suc k) n h = elim (dec_le 10 n) [
  | yes l ↦
      let p = pow-suc 10 (suc k) in
      let front = digits-back k (n / 10) (omega arith) in
      rw (le-ltb n 10 l, number_append 0 (decimal_in (suc k) (n / 10)) _, front)
      (number-digit (n / 10) (n % 10) (omega arith) ∙ omega arith)
  | no g ↦ rw (lt-ltb n 10 (lt_of_not-le g)) (number-digit 0 (n % 10) (omega arith) ∙ omega (arith, lt_of_not-le g))
]

pub decimal-back : (n : ℕ) → n < 10 ^ 20 → number_from 0 (decimal n) ≡ n
unfolding decimal
decimal-back n h = digits-back 19 n h

module _ (a z : Text) (s : Silent a) (e : Silent z) where
  pub number-back : (n : ℕ) → n < 10 ^ 20 → number_in (a ++ decimal n ++ z) ≡ n
  unfolding number_in
  number-back n h =
      number_append 0 (a ++ decimal n) z ∙ number-silent _ z e ∙ number_append 0 a (decimal n)
      ∙ rw (number-silent 0 a s) (decimal-back n h)

-- ---- with a sign
holds-append : (b : ℕ) (t u : Text) → Without b t → holds b (t ++ u) ≡ holds b u
holds-append b [] u w = refl
holds-append b (x ∷ t) u w = rw w.0 (holds-append b t u w.1)

module _ (a e : Text) (s : Silent a) (f : Silent e) (u : Without 45 a) (v : Without 45 e) where
  digits-plain : (n : ℕ) → Without 45 (decimal n)
  digits-plain n = without 48 57 45 (decimal n) (λ x l h e. omega arith) (decimal-within n)

  plain : (n : ℕ) → holds 45 (a ++ decimal n ++ e) ≡ false
  plain n =
      holds-append 45 (a ++ decimal n) e (each_append _ a (decimal n) u (digits-plain n)) ∙ holds-none 45 e v

  signed : (t : Text) → holds 45 (a ++ (45 ∷ t) ++ e) ≡ true
  signed t = rw append_assoc (holds-append 45 a ((45 ∷ t) ++ e) u)

  pub integer-back : (z : ℤ) → nat_abs z < 10 ^ 20 → integer_in (a ++ integer z ++ e) ≡ z
  unfolding integer integer_in
  integer-back (pos n) h = rw (plain n) (ap pos (number-back a e s f n h))
  integer-back (negsuc n) h =
      let minus = number-back (a ++ ascii "-") e (each_append _ a (ascii "-") s (refl, tt)) f (suc n) h in
      rw (signed (decimal (suc n))) (ap (λ m. neg_ℤ (pos m)) (rw (append_assoc a (ascii "-") (decimal (suc n))) at
      minus))

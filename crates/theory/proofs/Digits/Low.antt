-- Digits from the low end, and the zeros behind the last one, at any number of digits.
--   low_first n x      the n lowest bits of x, the lowest first
--   LowestDigit n x   of n + 1 digits of x, the lowest is a zero, which is one trailing zero more, or a one
-- Of the library: count_trailing_zeros n x is how many zeros end the n digits of x.
use Rattle.std.specs.Prelude.{◌≡◌, ◌≤◌, ◌<◌, ◌∷◌, ◌++◌, ◌+◌, ◌-◌, ◌/◌, ◌%◌, ◌^◌}
use Rattle.std.proofs.Math.Path.{refl}
use Rattle.std.proofs.Common.{sym, ap, ap₂, ◌∙◌, div-one, one-add, arith, shr-shr}
use Rattle.std.proofs.lemmas.List.{reverse-append}
use Rattle.std.proofs.Math.Nat.{suc-sub-suc, mod-one, sub-zero}
use Rattle.std.proofs.Math.Decide.{ℕ_discrete}
use Rattle.std.specs.Int.Count.{count_trailing_zeros}
use Rattle.std.proofs.lemmas.Nat.{trailing_le, mod-pow-add}
use Rattle.theory.specs.Basics.{true, false, [], reverse, ℕ, zero, suc, odd}
use Rattle.theory.specs.Digits.{Digits, digits, up_to_last_one}
use Rattle.theory.proofs.Digits.LastOne.{last_one, last-zero}

unfoldable pub low_first : ℕ → ℕ → Digits
low_first zero x = []
low_first (suc n) x = odd x ∷ low_first n (x / 2)

-- ---- the lowest digit stands last
half-power : (n x : ℕ) → x / 2 / 2 ^ n ≡ x / 2 ^ suc n
half-power n x = rw (← one-add n) (shr-shr x 1 n)

pub digits_last : (n x : ℕ) → digits (suc n) x ≡ digits n (x / 2) ++ (odd x ∷ [])
unfolding digits
digits_last zero x = rw (div-one x)
digits_last (suc n) x = ap₂ (λ (y : ℕ) (ds : Digits). odd y ∷ ds) (sym (half-power n x)) (digits_last n x)

pub reverse-digits : (n x : ℕ) → reverse (digits n x) ≡ low_first n x
unfolding low_first
reverse-digits zero x = unfold digits in refl
reverse-digits (suc n) x =
    ap reverse (digits_last n x) ∙ reverse-append (digits n (x / 2)) (odd x ∷ [])
    ∙ ap (λ (ds : Digits). odd x ∷ ds) (reverse-digits n (x / 2))

-- ---- trailing zeros
pub data LowestDigit (n x : ℕ) : Type 0 where
  low-zero : x % 2 ≡ 0 → digits (suc n) x ≡ digits n (x / 2) ++ (false ∷ [])
      → count_trailing_zeros (suc n) x ≡ suc (count_trailing_zeros n (x / 2)) → LowestDigit n x
  low-one : x % 2 ≡ 1 → digits (suc n) x ≡ digits n (x / 2) ++ (true ∷ []) → count_trailing_zeros (suc n) x ≡ 0
      → LowestDigit n x

pub lowest-digit : (n x : ℕ) → LowestDigit n x
unfolding count_trailing_zeros
lowest-digit n x = elim (ℕ_discrete (x % 2) 1) [
  | yes e ↦ low-one e (rw e at (digits_last n x)) (rw e)
  | no f ↦
      let e : x % 2 ≡ 0 = omega arith in
      low-zero e (rw e at (digits_last n x)) (rw e)
]

-- the trailing zeros say how many digits there are up to the last one
pub last_digits : (n x : ℕ) → up_to_last_one (digits n x) ≡ digits (n - count_trailing_zeros n x) (x / 2 ^ count_trailing_zeros n x)
last_digits zero x = unfold digits count_trailing_zeros in refl
last_digits (suc n) x = elim (lowest-digit n x) [
  | low-zero e d t ↦ rw (t, suc-sub-suc, ← half-power, d) (last-zero (digits n (x / 2)) ∙ last_digits n (x / 2))
  | low-one e d t ↦ rw (t, sub-zero, div-one, d) (last_one (digits n (x / 2)))
]

-- one digit more above makes no difference
pub trailing-more : (n x : ℕ) → 0 < x → x < 2 ^ n → count_trailing_zeros (suc n) x ≡ count_trailing_zeros n x
unfolding count_trailing_zeros
trailing-more zero x p h = absurd (omega arith)
trailing-more (suc n) x p h = elim (lowest-digit n x) [
  | low-zero e d t ↦ rw e (ap suc (trailing-more n (x / 2) (omega arith) (omega arith)))
  | low-one e d t ↦ rw e
]

-- a number with k zeros at its end is a multiple of 2^k
pub trailing-multiple : (n k x : ℕ) → k ≤ count_trailing_zeros n x → x % 2 ^ k ≡ 0
trailing-multiple n zero x h = mod-one x
trailing-multiple zero (suc k) x h = absurd (omega (arith, trailing_le 0 x))
trailing-multiple (suc n) (suc k) x h = elim (lowest-digit n x) [
  | low-zero e d t ↦
      let half = trailing-multiple n k (x / 2) (omega arith) in
      let one : k + 1 ≡ suc k = omega arith in
      rw one at (mod-pow-add x k 1) ∙ rw (half, e)
  | low-one e d t ↦ absurd (omega arith)
]

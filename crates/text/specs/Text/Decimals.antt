-- Decimal text: it is the fewest digits that hold the number, and a number below 10^k has at most k of them. What a
-- sign adds.
use Rattle.std.specs.Prelude.{◌≡◌, refl, ◌≤◌, ◌<◌, ◌∷◌, ◌++◌, ◌+◌, ◌-◌, ◌/◌, ◌%◌, ◌^◌}
use Rattle.std.proofs.Common.{pow-suc, lt_of_not-le, arith, lt-ltb, le-ltb, ltb-true, length-append}
use Rattle.std.proofs.Math.Nat.{pow-le-pow_right}
use Rattle.std.proofs.Math.Decide.{dec_le}
use Rattle.std.specs.Int.Signed.{lt_z}
use Rattle.io.specs.Digits.{hex_digit_ascii, last_digits, IsDigitCount}
use Rattle.theory.specs.Basics.{true, false, [], ℕ, zero, suc, length}
use Rattle.theory.specs.Basics.{ℤ, pos, negsuc, nat_abs}
use Rattle.text.specs.Text.{ascii, decimal_in, decimal, minus_sign, integer}

-- ---- the last digit, and those in front of it
module _ (k n : ℕ) where
  decimal-one : n < 10 → decimal_in (suc k) n ≡ (48 + n % 10) ∷ []
  decimal-one h = rw (lt-ltb n 10 h)

  decimal-more : 10 ≤ n → decimal_in (suc k) n ≡ decimal_in k (n / 10) ++ (48 + n % 10) ∷ []
  decimal-more h = rw (le-ltb n 10 h)

pub one-digit : (n : ℕ) → n < 10 → decimal n ≡ (48 + n) ∷ []
unfolding decimal
one-digit n h =
    let e : n % 10 ≡ n = omega arith in
    rw (decimal-one 19 n h, e)

pub two_digits : (n : ℕ) → 10 ≤ n → n < 100 → decimal n ≡ (48 + n / 10) ∷ (48 + n % 10) ∷ []
unfolding decimal
two_digits n h l =
    let e : n / 10 % 10 ≡ n / 10 = omega arith in
    rw (decimal-more 19 n h, decimal-one 18 (n / 10) (omega arith), e)

last-digit : (n : ℕ) → hex_digit_ascii (n % 10) ≡ 48 + n % 10
last-digit n = rw (lt-ltb (n % 10) 10 (omega arith))

-- ---- the fewest digits
fewest-digits : (j k n : ℕ) → k ≤ j → IsDigitCount 10 1 n k → last_digits 10 k n ≡ decimal_in j n
fewest-digits j zero n h f = absurd (omega (arith, f.0))
fewest-digits zero (suc k) n h f = absurd (omega arith)
fewest-digits (suc j) (suc zero) n h f = rw (decimal-one j n f.1, last-digit n)
fewest-digits (suc j) (suc (suc k)) n h f =
    let p = pow-suc 10 k in
    let q = pow-suc 10 (suc k) in
    let two : suc (suc k) - 1 ≡ suc k = omega arith in
    let one : suc k - 1 ≡ k = omega arith in
    let low = rw two at (f.2 (omega arith)) in
    let ten : 10 ≤ n = omega (arith, pow-le-pow_right {n = 10} (omega arith) {i = 1} {j = suc k} (omega arith)) in
    let fewest : IsDigitCount 10 1 (n / 10) (suc k) = (omega arith, omega (arith, f.1), λ l. rw one (omega arith)) in
    rw (decimal-more j n ten, last-digit n, fewest-digits j (suc k) (n / 10) (omega arith) fewest)

pub decimal-digits : (n k : ℕ) → n < 2 ^ 64 → IsDigitCount 10 1 n k → last_digits 10 k n ≡ decimal n
unfolding decimal
decimal-digits n k h f = elim (dec_le k 20) [
  | yes l ↦ fewest-digits 20 k n l f
  | no g ↦ absurd
      (omega (
        arith,
        lt_of_not-le g,
        f.2 (omega (arith, lt_of_not-le g)),
        pow-le-pow_right {n = 10} (omega arith) {i = 20} {j = k - 1} (omega (arith, lt_of_not-le g)),
      ))
]

-- ---- how many
few-digits : (j k n : ℕ) → n < 10 ^ suc k → length (decimal_in j n) ≤ suc k
few-digits zero k n h = omega arith
few-digits (suc j) zero n h = rw (decimal-one j n h) (omega arith)
few-digits (suc j) (suc k) n h = elim (dec_le 10 n) [
  | yes l ↦
      let front = few-digits j k (n / 10) (omega (arith, pow-suc 10 (suc k))) in
      rw (decimal-more j n l, length-append) (omega arith)
  | no g ↦ rw (decimal-one j n (lt_of_not-le g)) (omega arith)
]

at_most : (k n : ℕ) → length (decimal_in k n) ≤ k
at_most zero n = omega arith
at_most (suc k) n = elim (dec_le 10 n) [
  | yes l ↦ rw (decimal-more k n l, length-append) (omega (arith, at_most k (n / 10)))
  | no g ↦ rw (decimal-one k n (lt_of_not-le g)) (omega arith)
]

pub decimal-most : (n : ℕ) → length (decimal n) ≤ 20
unfolding decimal
decimal-most n = at_most 20 n

pub decimal-length : (n k : ℕ) → n < 10 ^ suc k → length (decimal n) ≤ suc k
unfolding decimal
decimal-length n k h = few-digits 20 k n h

-- ---- signs
pub minus-below : (z : ℤ) → lt_z z (pos 0) ≡ true → minus_sign z ≡ ascii "-"
minus-below (pos n) t = absurd (omega (arith, ltb-true n 0 t))
minus-below (negsuc n) t = refl

pub no_minus : (z : ℤ) → lt_z z (pos 0) ≡ false → minus_sign z ≡ []
no_minus (pos n) t = refl
no_minus (negsuc n) t = let z : ◌≡◌ {A = ℕ} 0 1 = cc in absurd (omega arith)

minus-length : (z : ℤ) → length (minus_sign z) ≤ 1
minus-length (pos n) = omega arith
minus-length (negsuc n) = omega arith

pub integer-length : (z : ℤ) (k : ℕ) → nat_abs z < 10 ^ suc k → length (integer z) ≤ suc (suc k)
unfolding integer
integer-length z k h =
    omega (arith, length-append (minus_sign z) (decimal (nat_abs z)), minus-length z, decimal-length (nat_abs z) k h)

-- Digits and words, there and back, at any number of digits n.
--   filled n ds   n digits that begin with ds; zeros fill the rest
use Rattle.std.specs.Prelude.{◌≡◌, refl, ◌⊎◌, ◌<◌, eqb, ◌∷◌, ◌+◌, ◌-◌, ◌*◌, ◌/◌, ◌%◌, ◌^◌}
use Rattle.std.proofs.Common.{sym, ◌∙◌, ap, inl, inr, ⊎_elim, mod-eq_of_lt, one-mul, zero-add, add-one, arith, lt-ltb, le-ltb, pow_pos}
use Rattle.std.proofs.Math.Nat.{div-eq_of_lt}
use Rattle.std.proofs.Math.Decide.{dec_lt}
use Rattle.std.proofs.Math.Pow.{pow-lt, high, low, field, mod-mod-pow}
use Rattle.theory.specs.Basics.{true, false, not, [], ℕ, zero, suc, ◌<?◌}
use Rattle.theory.specs.Basics.{length}
use Rattle.theory.specs.Digits.{Digits, bit, digits, word}

unfoldable pub filled : ℕ → Digits → Digits
filled zero ds = []
filled (suc n) [] = false ∷ filled n []
filled (suc n) (d ∷ ds) = d ∷ filled n ds

-- ---- digits of a number
-- a one shifted by k, within n bits
pub one_shifted : (n k : ℕ) → k < n → 1 * 2 ^ k % 2 ^ n ≡ 2 ^ k
one_shifted n k h = rw one-mul (mod-eq_of_lt (pow-lt h))

low_bit : (d n x : ℕ) → bit n (x % 2 ^ (suc d + n)) ≡ bit n x
low_bit d n x =
    let e : x / 2 ^ n % 2 ^ suc d % 2 ≡ x / 2 ^ n % 2 = rw (← add-one d) (mod-mod-pow (x / 2 ^ n) d 1) in
    ap (λ (y : ℕ). eqb (y % 2) 1) (field x (suc d) n) ∙ ap (λ (y : ℕ). eqb y 1) e

low-digits : (n d x : ℕ) → digits n (x % 2 ^ (d + n)) ≡ digits n x
unfolding digits
low-digits zero d x = refl
low-digits (suc n) d x =
    let e : d + suc n ≡ suc d + n = omega arith in
    rw (e, low_bit d n x, low-digits n (suc d) x) refl

-- the digits below the first are those of the remainder
pub digits-rest : (n x : ℕ) → digits n (x % 2 ^ n) ≡ digits n x
digits-rest n x =
    let e : 0 + n ≡ n = zero-add n in
    ap (λ (m : ℕ). digits n (x % 2 ^ m)) (sym e) ∙ low-digits n 0 x

pub digits-zero : (n x : ℕ) → x < 2 ^ n → digits (suc n) x ≡ false ∷ digits n x
unfolding digits
digits-zero n x h = rw (div-eq_of_lt h)

pub digits-one : (n r : ℕ) → r < 2 ^ n → digits (suc n) (2 ^ n + r) ≡ true ∷ digits n r
unfolding digits
digits-one n r h =
    let e : 2 ^ n + r ≡ 1 * 2 ^ n + r = omega arith in
    let d : digits n (1 * 2 ^ n + r) ≡ digits n r = sym (digits-rest n (1 * 2 ^ n + r)) ∙ ap (digits n) (low 1 n h) in
    rw (e, high 1 n h, d)

-- of n + 1 bits, bit n is the highest: it is 0 exactly below 2 ^ n
pub top_bit : (n x : ℕ) → x < 2 ^ suc n → x <? 2 ^ n ≡ not (bit n x)
top_bit n x h = elim (dec_lt x (2 ^ n)) [
  | yes l ↦ rw (lt-ltb x (2 ^ n) l, div-eq_of_lt l)
  | no g ↦
      let e : x ≡ 1 * 2 ^ n + (x - 2 ^ n) = omega arith in
      let d : x / 2 ^ n ≡ 1 = ap (λ (y : ℕ). y / 2 ^ n) e ∙ high 1 n {lo = x - 2 ^ n} (omega arith) in
      rw (le-ltb x (2 ^ n) (omega arith), d)
]

pub length_digits : (n x : ℕ) → length (digits n x) ≡ n
unfolding digits
length_digits zero x = refl
length_digits (suc n) x = ap suc (length_digits n x)

pub digits-none : (n : ℕ) → digits n 0 ≡ filled n []
unfolding digits filled
digits-none zero = refl
digits-none (suc n) = digits-zero n 0 (pow_pos n) ∙ ap {B = Digits} (λ ds. false ∷ ds) (digits-none n)

-- a number of one digit more begins with a zero or with a one
pub top-cases : (n x : ℕ) → x < 2 ^ suc n → (x < 2 ^ n) ⊎ ((r : ℕ) × (r < 2 ^ n) × (x ≡ 2 ^ n + r))
top-cases n x h = elim (dec_lt x (2 ^ n)) [ yes l ↦ inl l | no g ↦ inr (x - 2 ^ n, omega arith, omega arith) ]

-- ---- the word of digits
pub word_below : (n : ℕ) (ds : Digits) → word n ds < 2 ^ n
unfolding word
word_below zero ds = omega arith
word_below (suc n) [] = pow_pos (suc n)
word_below (suc n) (false ∷ ds) = omega (arith, word_below n ds)
word_below (suc n) (true ∷ ds) = omega (arith, word_below n ds)

pub word_none : (n : ℕ) → word n [] ≡ 0
unfolding word
word_none zero = refl
word_none (suc n) = refl

pub word-filled : (n : ℕ) (ds : Digits) → word n (filled n ds) ≡ word n ds
unfolding word filled
word-filled zero ds = refl
word-filled (suc n) [] = word-filled n [] ∙ word_none n
word-filled (suc n) (false ∷ ds) = word-filled n ds
word-filled (suc n) (true ∷ ds) = ap (λ (k : ℕ). 2 ^ n + k) (word-filled n ds)

-- ---- there and back
pub digits-word : (n : ℕ) (ds : Digits) → digits n (word n ds) ≡ filled n ds
unfolding digits word filled
digits-word zero ds = refl
digits-word (suc n) [] = digits-none (suc n)
digits-word (suc n) (false ∷ ds) =
    digits-zero n (word n ds) (word_below n ds) ∙ ap {B = Digits} (λ l. false ∷ l) (digits-word n ds)
digits-word (suc n) (true ∷ ds) =
    digits-one n (word n ds) (word_below n ds) ∙ ap {B = Digits} (λ l. true ∷ l) (digits-word n ds)

pub word-digits : (n x : ℕ) → x < 2 ^ n → word n (digits n x) ≡ x
unfolding digits word
word-digits zero x h = omega arith
word-digits (suc n) x h = ⊎_elim
    (λ l. rw (digits-zero n x l) (word-digits n x l))
    (λ t. rw (t.2, digits-one n t.0 t.1, word-digits n t.0 t.1))
    (top-cases n x h)

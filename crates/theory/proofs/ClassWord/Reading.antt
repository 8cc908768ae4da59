-- Reading a class word (document 01, "Reading counts leading zeros again and again"), at any width W: 31 of a 32-bit
-- word, 63 of a 64-bit word. Leading zeros give the next part, trailing zeros the degree.
--   NextPart W at x z b   the next part when `at` of the W digits are read and the number x is left: z are the leading
--                         zeros of x, b is the one behind them, the part is z - at; b comes off, and z digits are read
--   FirstPart W x z       the first part of x is z, its leading zeros: one shift that drops the top bits takes it out
use Rattle.std.specs.Prelude.{◌≡◌, ◌≤◌, ◌<◌, ◌∷◌, ◌++◌, ◌+◌, ◌-◌, ◌*◌, ◌/◌, ◌%◌, ◌^◌}
use Rattle.std.proofs.Math.Path.{refl}
use Rattle.std.proofs.Common.{ap, ap₂, ◌∙◌, add-zero, add-suc, mul-one, pow-suc, lt_of_lt_of_le, lt_of_le_of_lt, lt_of_not-le, not-le_of_lt, pos_of_ne-zero, arith, pow_pos, pow_mono, pow-add, shl_lt}
use Rattle.std.proofs.Math.Nat.{suc-sub-suc}
use Rattle.std.proofs.Math.Decide.{ℕ_discrete}
use Rattle.std.specs.Int.Count.{count_leading_zeros, count_trailing_zeros, trailing_of_zero}
use Rattle.std.proofs.lemmas.Nat.{leading_top}
use Rattle.theory.specs.Basics.{true, false, [], ℕ, zero, suc}
use Rattle.theory.specs.Basics.{length, drop}
use Rattle.theory.specs.Partition.{Parts, degree}
use Rattle.theory.specs.Digits.{Digits, digits, word}
use Rattle.theory.proofs.Digits.Laws.{one_shifted, digits-rest, digits-one, length_digits}
use Rattle.theory.proofs.Digits.Low.{digits_last, low-zero, low-one, lowest-digit, trailing-more}
use Rattle.theory.specs.ClassWord.{class_digits, parts_after}
use Rattle.theory.proofs.ClassWord.Laws.{parts-front, word-parts}

pub record NextPart (W at x z b : ℕ) : Type 0 where
  pub above : at < z
  pub within : z ≤ W
  pub one : 0 < b
  pub takes : b ≤ x
  pub left : x - b < 2 ^ (W - z)
  pub reads : parts_after 0 (digits (W - at) x) ≡ (z - at) ∷ parts_after 0 (digits (W - z) (x - b))

-- the one behind z zeros is what `1 << (W - z)` gives
pub next-part : (W at x : ℕ) → 0 < x → x < 2 ^ (W - at)
    → NextPart W at x (count_leading_zeros (suc W) x) (1 * 2 ^ (W - count_leading_zeros (suc W) x) % 2 ^ suc W)
next-part W at x p h = go (count_leading_zeros (suc W) x) (leading_top (suc W) x p (lt_of_lt_of_le h (pow_mono (omega arith))))
  where
    go : (z : ℕ) → (j : ℕ) × (z + suc j ≡ suc W) × (2 ^ j ≤ x) × (x < 2 ^ suc j)
        → NextPart W at x z (1 * 2 ^ (W - z) % 2 ^ suc W)
    go z (j, e, lo, hi) =
        let digit : W - z ≡ j = omega arith in
        let b : 1 * 2 ^ (W - z) % 2 ^ suc W ≡ 2 ^ j = rw digit (one_shifted (suc W) j (omega arith)) in
        let unread : j < W - at = lt_of_not-le (λ (g : W - at ≤ j). not-le_of_lt (lt_of_le_of_lt lo h) (pow_mono g)) in
        let below : x - 2 ^ j < 2 ^ j = omega arith in
        let n : W - at ≡ suc (W - at - suc j + j) = omega arith in
        let whole : x ≡ 2 ^ j + (x - 2 ^ j) = omega arith in
        let part : suc (0 + (W - at - suc j)) ≡ z - at = omega arith in
        record {
          above = omega arith;
          within = omega arith;
          one = rw b (pow_pos j);
          takes = rw b lo;
          left = rw (b, digit) below;
          reads = rw (b, digit)
              (ap₂ (λ (m y : ℕ). parts_after 0 (digits m y)) n whole
              ∙ parts-front 0 (W - at - suc j) j (x - 2 ^ j) below
              ∙ ap (λ (p : ℕ). p ∷ parts_after 0 (digits j (x - 2 ^ j))) part);
        }

-- ---- the lowest digit, and the degree by trailing zeros
parts-zero : (z : ℕ) (ds : Digits) → parts_after z (ds ++ (false ∷ [])) ≡ parts_after z ds
parts-zero z [] = refl
parts-zero z (false ∷ ds) = parts-zero (suc z) ds
parts-zero z (true ∷ ds) = ap (λ (ps : Parts). suc z ∷ ps) (parts-zero 0 ds)

degree-one : (z : ℕ) (ds : Digits) → degree (parts_after z (ds ++ (true ∷ []))) ≡ z + suc (length ds)
degree-one z [] = omega arith
degree-one z (false ∷ ds) = omega (arith, degree-one (suc z) ds)
degree-one z (true ∷ ds) = omega (arith, degree-one 0 ds)

pub class-degree : (n x : ℕ) → degree (parts_after 0 (digits n x)) ≡ n - count_trailing_zeros n x
class-degree zero x = unfold digits count_trailing_zeros in refl
class-degree (suc n) x = elim (lowest-digit n x) [
  | low-zero e d t ↦ rw (t, suc-sub-suc, d, parts-zero 0 (digits n (x / 2))) (class-degree n (x / 2))
  | low-one e d t ↦ rw (t, d) (omega (arith, degree-one 0 (digits n (x / 2)), length_digits n (x / 2)))
]

-- with a zero in front, as a word of 32 bits has one
pub degree-told : (W x : ℕ) → x < 2 ^ W → degree (parts_after 0 (digits W x)) ≡ W - count_trailing_zeros (suc W) x
degree-told W x h = elim (ℕ_discrete x 0) [
  | yes e ↦ rw e (omega (arith, class-degree W 0, trailing_of_zero W, trailing_of_zero (suc W)))
  | no f ↦ rw (trailing-more W x (pos_of_ne-zero f) h) (class-degree W x)
]

-- ---- digits moved up
parts-double : (n x : ℕ) → parts_after 0 (digits (suc n) (x * 2)) ≡ parts_after 0 (digits n x)
parts-double n x =
    let half : x * 2 / 2 ≡ x = omega arith in
    let even : x * 2 % 2 ≡ 0 = omega arith in
    rw (digits_last n (x * 2), half, even) (parts-zero 0 (digits n x))

pub parts-shift : (n k x : ℕ) → parts_after 0 (digits (n + k) (x * 2 ^ k)) ≡ parts_after 0 (digits n x)
parts-shift n zero x = rw (add-zero, mul-one)
parts-shift n (suc k) x =
    let e : x * 2 ^ suc k ≡ x * 2 ^ k * 2 = omega (arith, ap (λ (y : ℕ). x * y) (pow-suc 2 k)) in
    rw (add-suc, e) (parts-double (n + k) (x * 2 ^ k) ∙ parts-shift n k x)

-- what the n lowest digits give, moved up by k
pub word_moved : (n k x : ℕ) → x < 2 ^ n → word (n + k) (class_digits (parts_after 0 (digits n x))) ≡ x * 2 ^ k
word_moved n k x h = rw (← parts-shift n k x) (word-parts (n + k) (x * 2 ^ k) (shl_lt n k h))

-- moved up so that its top one is bit W, a number keeps below it what stood behind that one
one_out : (j z r : ℕ) → r < 2 ^ j → digits (j + z) ((2 ^ j + r) * 2 ^ z % 2 ^ suc (j + z)) ≡ digits (j + z) (r * 2 ^ z)
unfolding digits
one_out j z r h =
    let e : (2 ^ j + r) * 2 ^ z ≡ 2 ^ (j + z) + r * 2 ^ z = omega (arith, pow-add 2 j z) in
    let d = digits-rest (suc (j + z)) ((2 ^ j + r) * 2 ^ z) in
    ap (drop 1) (d ∙ ap (digits (suc (j + z))) e ∙ digits-one (j + z) (r * 2 ^ z) (shl_lt j z h))

-- ---- the first part taken out
pub record FirstPart (W x z : ℕ) : Type 0 where
  pub some : 0 < z
  pub within : z ≤ W
  pub reads : parts_after 0 (digits W x) ≡ z ∷ parts_after 0 (digits W (x * 2 ^ z % 2 ^ suc W % 2 ^ W))

-- it is the next part where no digit is read
pub first_part : (W x : ℕ) → 0 < x → x < 2 ^ W → FirstPart W x (count_leading_zeros (suc W) x)
first_part W x p h =
    let none : W - 0 ≡ W = omega arith in
    go (count_leading_zeros (suc W) x) (leading_top (suc W) x p (omega arith)) (next-part W 0 x p (rw none h))
  where
    go : (z : ℕ) → (j : ℕ) × (z + suc j ≡ suc W) × (2 ^ j ≤ x) × (x < 2 ^ suc j)
        → NextPart W 0 x z (1 * 2 ^ (W - z) % 2 ^ suc W) → FirstPart W x z
    go z (j, e, lo, hi) next =
        let size : j + z ≡ W = omega arith in
        let digit : W - z ≡ j = omega arith in
        let b : 1 * 2 ^ j % 2 ^ suc W ≡ 2 ^ j = one_shifted (suc W) j (omega arith) in
        let whole : 2 ^ j + (x - 2 ^ j) ≡ x = omega arith in
        let r : x - 2 ^ j < 2 ^ j = omega arith in
        let none : W - 0 ≡ W = omega arith in
        let part : z - 0 ≡ z = omega arith in
        let first = rw (none, part, digit, b) at next.reads in
        let out = rw (size, whole) at (one_out j z (x - 2 ^ j) r) in
        let back = rw size at (parts-shift j z (x - 2 ^ j)) in
        record {
          some = next.above;
          within = next.within;
          reads = rw (digits-rest W (x * 2 ^ z % 2 ^ suc W), out, back) first;
        }

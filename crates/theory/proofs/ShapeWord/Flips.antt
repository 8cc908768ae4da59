-- The conjugate of digits from the low end: the trailing zeros go, and the other digits are complemented, lowest first.
--   flips n x   the n lowest bits of x complemented, the lowest first
use Rattle.std.specs.Prelude.{◌≡◌, ◌≤◌, ◌<◌, ◌∷◌, ◌+◌, ◌-◌, ◌*◌, ◌/◌, ◌%◌, ◌^◌}
use Rattle.std.proofs.Common.{ap, ap₂, ◌∙◌, arith, shl_exact}
use Rattle.std.proofs.Math.Nat.{sub_self}
use Rattle.std.specs.Int.Count.{count_trailing_zeros}
use Rattle.theory.specs.Basics.{not, map, reverse, ℕ, zero, suc, ◌=?◌}
use Rattle.theory.specs.Digits.{Digits, digits, word}
use Rattle.theory.proofs.Digits.Laws.{word_none}
use Rattle.theory.proofs.Digits.Low.{low_first, reverse-digits, last_digits}
use Rattle.theory.specs.ShapeWord.{conjugate}

abbrev pub flips : ℕ → ℕ → Digits
flips n x = map not (low_first n x)

pub conjugate-digits : (n x : ℕ)
    → conjugate (digits n x) ≡ flips (n - count_trailing_zeros n x) (x / 2 ^ count_trailing_zeros n x)
conjugate-digits n x =
    ap (λ (ds : Digits). map not (reverse ds)) (last_digits n x)
    ∙ ap (map not) (reverse-digits (n - count_trailing_zeros n x) (x / 2 ^ count_trailing_zeros n x))

flip-first : (b n : ℕ) (ds : Digits) → b < 2 → word (suc n) (not (b =? 1) ∷ ds) ≡ (1 - b) * 2 ^ n + word n ds
unfolding word
flip-first zero n ds h = omega arith
flip-first (suc zero) n ds h = omega arith
flip-first (suc (suc b)) n ds h = absurd (omega arith)

-- The lowest of the digits left goes to the highest of the places left, as a shift in a word of W bits puts it there;
-- the t lowest places keep their zeros.
pub flip-step : (W left t x : ℕ) → t < left → left ≤ W
    → word left (flips (left - t) x)
    ≡ (1 - x % 2) * 2 ^ (left - 1) % 2 ^ W + word (left - 1) (flips (left - 1 - t) (x / 2))
unfolding low_first
flip-step W left t x h l =
    let n : left ≡ suc (left - 1) = omega arith in
    let m : left - t ≡ suc (left - 1 - t) = omega arith in
    rw (shl_exact {a = 1 - x % 2} 1 (left - 1) W (omega arith) (omega arith))
    (ap₂ (λ (u v : ℕ). word u (flips v x)) n m
    ∙ flip-first (x % 2) (left - 1) (flips (left - 1 - t) (x / 2)) (omega arith))

-- and when only those are left
pub flip-end : (t x : ℕ) → word t (flips (t - t) x) ≡ 0
unfolding low_first
flip-end t x = rw sub_self (word_none t)

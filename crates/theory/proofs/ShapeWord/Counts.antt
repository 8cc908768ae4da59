-- What counts of zeros and ones tell of a shape word: leading zeros its degree, trailing zeros and ones the number of
-- its rows. Leading zeros, which give the next one again and again, give the parts of the class word with these digits.
--   pairs_after z ps   the pairs of a zero and a later one, of ones that stand as the parts ps do, behind z zeros more
use Rattle.std.specs.Prelude.{◌≡◌, ◌∷◌, ◌+◌, ◌-◌, ◌*◌, ◌/◌, ◌^◌}
use Rattle.std.proofs.Common.{◌∙◌, ap, arith}
use Rattle.std.specs.Int.Count.{count_trailing_zeros, trailing_of_zero}
use Rattle.std.proofs.lemmas.Nat.{trailing_le}
use Rattle.theory.specs.Basics.{true, false, [], ℕ, suc, length}
use Rattle.theory.specs.Partition.{Parts, degree}
use Rattle.theory.specs.Digits.{Digits, digits, word, ones}
use Rattle.theory.proofs.Digits.Laws.{length_digits, word_none}
use Rattle.theory.proofs.Digits.LastOne.{last, last_none}
use Rattle.theory.proofs.Digits.Low.{last_digits}
use Rattle.theory.specs.ClassWord.{parts_after}
use Rattle.theory.specs.ShapeWord.{rows, pairs, conjugate}
use Rattle.theory.proofs.ShapeWord.Laws.{degree-pairs, length-rows, rows_none}

abbrev pub pairs_after : ℕ → Parts → ℕ
pairs_after z [] = 0
pairs_after z (p ∷ ps) = (z + (p - 1)) + pairs_after (z + (p - 1)) ps

-- each one is paired with all the zeros before it
pairs-after : (z k : ℕ) (ds : Digits) → pairs_after z (parts_after k ds) ≡ (z + k) * ones ds + pairs ds
pairs-after z k [] = omega arith
pairs-after z k (false ∷ ds) = omega (arith, pairs-after z (suc k) ds)
pairs-after z k (true ∷ ds) =
    let e : suc k - 1 ≡ k = omega arith in
    rw e (omega (arith, pairs-after (z + k) 0 ds))

pub degree-after : (ds : Digits) → degree (rows ds) ≡ pairs_after 0 (parts_after 0 ds)
degree-after ds = omega (arith, pairs-after 0 0 ds, degree-pairs ds)

-- rows, ones and trailing zeros are all digits
pub rows-trailing : (n x : ℕ) → length (rows (digits n x)) + ones (digits n x) + count_trailing_zeros n x ≡ n
rows-trailing n x =
    let t : ℕ = count_trailing_zeros n x in
    let l = length-rows (last (digits n x)) ∙ ap length (last_digits n x) ∙ length_digits (n - t) (x / 2 ^ t) in
    omega (arith, trailing_le n x)

-- ---- 0 has no ones, no rows, and is its own conjugate
ones_of_zero : (n : ℕ) → ones (digits n 0) ≡ 0
ones_of_zero n = omega (arith, rows-trailing n 0, trailing_of_zero n)

pub rows-of-zero : (n : ℕ) → rows (digits n 0) ≡ []
rows-of-zero n = rows_none (digits n 0) (ones_of_zero n)

pub conjugate-of-zero : (n : ℕ) → word n (conjugate (digits n 0)) ≡ 0
conjugate-of-zero n = rw (last_none (digits n 0) (ones_of_zero n)) (word_none n)

-- A shape word with its digits complemented, up to the last one: its ones are the rows, which leading zeros give again
-- and again as they give the parts of a class word with these digits.
--   rows_after n ps   the rows of a shape word with n ones, whose zeros stand where the parts ps end
--   complement n x   the n lowest bits of x, complemented up to the last one
use Rattle.std.specs.Prelude.{◌≡◌, refl, ◌≤◌, ◌<◌, ◌∷◌, ◌+◌, ◌-◌, ◌*◌, ◌/◌, ◌^◌}
use Rattle.std.proofs.Common.{sym, ◌∙◌, ap, zero-add, arith, pow-add, shr_lt}
use Rattle.std.specs.Int.Count.{count_trailing_zeros}
use Rattle.std.proofs.lemmas.Nat.{trailing_le}
use Rattle.std.proofs.Math.Pow.{split}
use Rattle.theory.specs.Basics.{true, false, not, [], map, ℕ, zero, suc}
use Rattle.theory.specs.Partition.{Parts}
use Rattle.theory.specs.Digits.{Digits, digits, ones, up_to_last_one}
use Rattle.theory.proofs.Digits.LastOne.{LastOne, none, some, last}
use Rattle.theory.proofs.Digits.Low.{last_digits, trailing-multiple}
use Rattle.theory.proofs.Digits.Bits.{bit_not}
use Rattle.theory.specs.ClassWord.{parts_after}
use Rattle.theory.proofs.ClassWord.Reading.{parts-shift}
use Rattle.theory.specs.ShapeWord.{rows}
use Rattle.theory.proofs.ShapeWord.Laws.{rows-zero, rows_none}

abbrev pub rows_after : ℕ → Parts → Parts
rows_after n [] = []
rows_after n (p ∷ ps) = (n - (p - 1)) ∷ rows_after (n - (p - 1)) ps

-- a zero is a row, as long as there are ones after it; k ones stand before the digits ds
rows-complemented : (k : ℕ) {ds us : Digits} → LastOne ds us
    → rows_after (k + ones ds) (parts_after k (map not us)) ≡ rows ds
rows-complemented k (none {ds = ds} e) = sym (rows_none ds e)
rows-complemented k (some {d = true} {ds = ds} h u) =
    let e : k + suc (ones ds) ≡ suc k + ones ds = omega arith in
    rw e (rows-complemented (suc k) u)
rows-complemented k (some {d = false} {ds = ds} {us = us} h u) =
    let e : k + ones ds - (suc k - 1) ≡ ones ds = omega arith in
    rw (e, rows-zero ds h) (ap {B = Parts} (λ l. ones ds ∷ l) (rw zero-add at (rows-complemented 0 u)))

digits-not : (m n x : ℕ) → x < 2 ^ n → m ≤ n → map not (digits m x) ≡ digits m ((2 ^ n - 1) - x)
unfolding digits
digits-not zero n x h l = refl
digits-not (suc m) n x h l = rw (bit_not m n x h (omega arith), digits-not m n x h (omega arith))

abbrev pub complement : ℕ → ℕ → ℕ
complement n x = (2 ^ n - 2 ^ count_trailing_zeros n x) - x

-- without its trailing zeros a number has as many digits less, and here they are complemented
record Cut (n x : ℕ) : Type 0 where
  size : n - count_trailing_zeros n x + count_trailing_zeros n x ≡ n
  below : x / 2 ^ count_trailing_zeros n x < 2 ^ (n - count_trailing_zeros n x)
  room : x + 2 ^ count_trailing_zeros n x ≤ 2 ^ n
  complements : ((2 ^ (n - count_trailing_zeros n x) - 1) - x / 2 ^ count_trailing_zeros n x) * 2 ^ count_trailing_zeros n x ≡ complement n x

cut : (n x : ℕ) → x < 2 ^ n → Cut n x
cut n x h =
    let t : ℕ = count_trailing_zeros n x in
    let m : ℕ = n - t in
    let y : ℕ = x / 2 ^ t in
    let size : m + t ≡ n = omega (arith, trailing_le n x) in
    let below : y < 2 ^ m = shr_lt m t (rw size h) in
    let whole : y * 2 ^ t ≡ x = omega (arith, split x t, trailing-multiple n t x (omega arith)) in
    let z : ℕ = (2 ^ m - 1) - y in
    let all : suc z + y ≡ 2 ^ m = omega arith in
    let power : 2 ^ n ≡ (suc z + y) * 2 ^ t =
    ap (λ (k : ℕ). 2 ^ k) (sym size) ∙ pow-add 2 m t ∙ ap (λ (k : ℕ). k * 2 ^ t) (sym all) in
    record { size = size; below = below; room = omega arith; complements = omega arith }

pub complement-room : (n x : ℕ) → x < 2 ^ n → x + 2 ^ count_trailing_zeros n x ≤ 2 ^ n
complement-room n x h = (cut n x h).room

parts-complemented : (n x : ℕ) → x < 2 ^ n
    → parts_after 0 (map not (up_to_last_one (digits n x))) ≡ parts_after 0 (digits n (complement n x))
parts-complemented n x h =
    let c = cut n x h in
    let t : ℕ = count_trailing_zeros n x in
    let m : ℕ = n - t in
    rw (last_digits n x, digits-not m m (x / 2 ^ t) c.below (omega arith))
    (sym (parts-shift m t ((2 ^ m - 1) - x / 2 ^ t)) ∙ rw (c.size, c.complements))

pub rows_told : (n x : ℕ) → x < 2 ^ n
    → rows (digits n x) ≡ rows_after (ones (digits n x)) (parts_after 0 (digits n (complement n x)))
rows_told n x h =
    let e = rw zero-add at (rows-complemented 0 (last (digits n x))) in
    sym e ∙ ap (rows_after (ones (digits n x))) (parts-complemented n x h)

-- Leading ones as code counts and drops them: a word is shifted by one, so that digit 1 comes to bit 31, and the
-- leading zeros of its complement are counted; then it is shifted by as many, and bit 31 left out.
-- Of the library: count_leading_zeros n x is how many zeros begin the n digits of x.
use Rattle.std.specs.Prelude.{◌≡◌, ◌<◌, ◌∷◌, ◌+◌, ◌-◌, ◌*◌, ◌%◌, ◌^◌}
use Rattle.std.proofs.Common.{sym, ◌∙◌, ap}
use Rattle.std.proofs.Math.Nat.{mod-eq_of_lt}
use native.Mathlib.Omega.{arith}
use Rattle.std.specs.Int.Count.{count_leading_zeros, leading_unique}
use Rattle.std.proofs.lemmas.Nat.{leading_top, leading_length}
use Rattle.std.proofs.Math.Pow.{mod-mod-pow, low, pow_pos}
use Rattle.theory.specs.Basics.{true, false, [], ℕ, suc, length}
use Rattle.theory.specs.Digits.{Digits, digits, word, width}
use Rattle.theory.proofs.Digits.Laws.{word_below, word-digits, length_digits}
use Rattle.theory.specs.ShapeWord.{shifted, leading_ones, good_word, dropped}
use Rattle.theory.proofs.ShapeWord.InFront.{word-front}
use Rattle.theory.specs.ShapeWord.Shifting.{ones_before, ones_out}

-- ---- how many there are, at any number of digits
leading-none : (n t : ℕ) → t < 2 ^ n → count_leading_zeros (suc (suc n)) ((2 ^ suc (suc n) - 1) - t * 2) ≡ 0
leading-none n t l =
    let a : ℕ = (2 ^ suc (suc n) - 1) - t * 2 in
    sym (leading_unique (suc (suc n)) a 0 (suc (suc n)) (omega arith) (omega arith) (omega arith))

leading-one : (n t : ℕ) → t < 2 ^ n → count_leading_zeros (suc (suc n)) ((2 ^ suc (suc n) - 1) - (2 ^ n + t) * 2)
    ≡ suc (count_leading_zeros (suc n) ((2 ^ suc n - 1) - t * 2))
leading-one n t l =
    let a : ℕ = (2 ^ suc n - 1) - t * 2 in
    let e : (2 ^ suc (suc n) - 1) - (2 ^ n + t) * 2 ≡ a = omega arith in
    let (m, all, above, below) = leading_length (suc n) a (omega arith) in
    rw e (sym (leading_unique (suc (suc n)) a (suc (count_leading_zeros (suc n) a)) m (omega arith) above below))

ones-counted : (ds : Digits)
    → count_leading_zeros (suc (length ds)) ((2 ^ suc (length ds) - 1) - word (length ds) ds * 2) ≡ leading_ones ds
unfolding word
ones-counted [] = sym (leading_unique 1 1 0 1 (omega arith) (omega arith) (omega arith))
ones-counted (true ∷ ds) = leading-one (length ds) (word (length ds) ds) (word_below (length ds) ds)
    ∙ ap suc (ones-counted ds)
ones-counted (false ∷ ds) = leading-none (length ds) (word (length ds) ds) (word_below (length ds) ds)

-- ---- at the width
module _ (ds : Digits) (l : length ds ≡ width) where
  abbrev t : ℕ
  t = word width ds

  ones-before : ones_before t ≡ leading_ones ds
  unfolding ones_before
  ones-before =
      let small : t < 2 ^ 31 = word_below width ds in
      let twice : t * 2 % 2 ^ 32 ≡ t * 2 = mod-eq_of_lt (omega arith) in
      rw twice (rw l at (ones-counted ds))

  pub ones-out : ones_out t ≡ word width (shifted ds)
  unfolding ones_out
  ones-out =
      let k : ℕ = leading_ones ds in
      let y : ℕ = word width (shifted ds) in
      let front : t * 2 ^ k + 2 ^ 31 ≡ 2 ^ k * 2 ^ 31 + y = rw l at (word-front ds) in
      let some : 0 < 2 ^ k = pow_pos k in
      let e : t * 2 ^ k ≡ (2 ^ k - 1) * 2 ^ 31 + y = omega arith in
      rw (ones-before, mod-mod-pow (t * 2 ^ k) 1 31, e) (low (2 ^ k - 1) 31 {lo = y} (word_below width (shifted ds)))

-- they are fewer than the bits of a word
pub ones-few : (t : ℕ) → ones_before t < 32
unfolding ones_before
ones-few t =
    let (j, all, lo, hi) = leading_top 32 ((2 ^ 32 - 1) - t * 2 % 2 ^ 32) (omega arith) (omega arith) in
    omega arith

module _ (w : ℕ) (below : w < 2 ^ width) where
  pub dropped-counted : ones_before w ≡ dropped w
  dropped-counted = rw (word-digits width w below) at (ones-before (digits width w) (length_digits width w))

  pub dropped-few : dropped w < 32
  dropped-few = omega (arith, ones-few w, dropped-counted)

  pub good-shifted : w * 2 ^ dropped w % 2 ^ 32 % 2 ^ 31 ≡ good_word w
  unfolding ones_out
  good-shifted =
      rw (← dropped-counted) (rw (word-digits width w below) at (ones-out (digits width w) (length_digits width w)))

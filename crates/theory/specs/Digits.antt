-- Digits and words, at any number of digits (document 01, "Words", first paragraph; "for any number of digits").
--   Digits       a list of binary digits, digit 1 first; a one is true, a zero is false
--   bit k x      bit k of the number x; digits n x, its n lowest bits
--   word n ds    the number of n digits that begins with ds; zeros fill the rest
--   ones ds      how many of the digits are ones; zeros ds, how many are zeros
--   up_to_last_one ds   the digits up to the last one; none if there is no one
--   width        31: the digits of a word, without bit 31, its sign digit
use Rattle.std.specs.Prelude.{◌∷◌, ◌+◌, ◌/◌, ◌^◌}
use Rattle.theory.specs.Basics.{Bool, true, false, not, cond, List, [], ℕ, zero, suc}
use Rattle.theory.specs.Basics.{◌=?◌, odd, count}

abbrev pub Digits : Type 0
Digits = List Bool

abbrev pub bit : ℕ → ℕ → Bool
bit k x = odd (x / 2 ^ k)

unfoldable pub digits : ℕ → ℕ → Digits
digits zero x = []
digits (suc n) x = bit n x ∷ digits n x

unfoldable pub word : ℕ → Digits → ℕ
word zero ds = 0
word (suc n) [] = 0
word (suc n) (false ∷ ds) = word n ds
word (suc n) (true ∷ ds) = 2 ^ n + word n ds

abbrev pub ones : Digits → ℕ
ones ds = count (λ d. d) ds

abbrev pub zeros : Digits → ℕ
zeros ds = count not ds

abbrev pub up_to_last_one : Digits → Digits
up_to_last_one [] = []
up_to_last_one (d ∷ ds) = cond (ones (d ∷ ds) =? 0) [] (d ∷ up_to_last_one ds)

abbrev pub width : ℕ
width = 31

-- Hooks by a mask, as code finds them (document 01, "Hook of length h"): all the zeros that begin a hook at once.
-- A digit is named by its place: at place b it counts 2 ^ b, so digit 1 of a word is at place 30.
--   marks s h          has its ones where a zero of the word s begins a hook of length h: `(!s & (s << h)) % 2^31`
--   places n x         the places below n at which x has a one, highest first
--   exchanged s h b    s with the zero at place b and the one h places below it exchanged
--   minus_at s h b      whether the zeros strictly between are odd in number: of the h digits from below place b to the
--                      one, those that are not ones
--   marked_hook h s b   the hook of length h that begins at place b of the word s
-- Of the library: bit_and x y has the ones that both x and y have; Count.ones x is how many ones x has.
use Rattle.std.specs.Prelude.{◌∷◌, ◌+◌, ◌-◌, ◌*◌, ◌/◌, ◌%◌, ◌^◌}
use Rattle.std.specs.Int.Bits.{bit_and}
use Rattle.std.specs.Int.Count
use Rattle.theory.specs.Basics.{Bool, cond, List, [], ℕ, zero, suc, odd}
use Rattle.theory.specs.Digits.{bit}
use Rattle.theory.specs.ShapeWord.Shifting.{ones_out}
use Rattle.theory.specs.Hooks.{Hook}
pub mod Stretch

unfoldable pub marks : ℕ → ℕ → ℕ
marks s h = bit_and ((2 ^ 32 - 1) - s) (s * 2 ^ h % 2 ^ 32) % 2 ^ 31

unfoldable pub places : ℕ → ℕ → List ℕ
places zero x = []
places (suc n) x = cond (bit n x) (n ∷ places n x) (places n x)

abbrev pub exchanged : ℕ → ℕ → ℕ → ℕ
exchanged s h b = s + 2 ^ b - 2 ^ (b - h)

unfoldable pub minus_at : ℕ → ℕ → ℕ → Bool
minus_at s h b = odd (h + Count.ones (s / 2 ^ (b - h) % 2 ^ h))

abbrev pub marked_hook : ℕ → ℕ → ℕ → Hook ℕ
marked_hook h s b = record { minus = minus_at s h b; leaves = ones_out (exchanged s h b) }

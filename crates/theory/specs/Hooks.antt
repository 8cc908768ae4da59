-- Hooks (document 01, "Hook of length h"; document 001, second method).
--   Hook A          a hook: whether its sign is minus, and what it leaves, as digits or as a word
--   hook_at h ds i   the hook of length h whose zero is digit i, from 1, if there is one; none has length 0
--   hooks h ds      the hooks of length h, top row first
--   hook_word hook   the hook with the good word of what it leaves; hook_words h w, the hooks of a good word so
use Rattle.std.specs.Prelude.{◌&&◌, ◌∷◌, ◌+◌, ◌-◌}
use Rattle.theory.specs.Basics.{Bool, true, false, not, cond, List, [], map, length, get_or, set}
use Rattle.theory.specs.Basics.{take, drop, ℕ, odd, joined, up_from}
use Rattle.theory.specs.Digits.{Digits, digits, word, zeros, width}
use Rattle.theory.specs.ShapeWord.{shifted}
pub mod Words
pub mod Degrees
pub mod Marks

pub record Hook (A : Type 0) : Type 0 where
  pub minus : Bool
  pub leaves : A

abbrev pub hook_at : ℕ → Digits → ℕ → List (Hook Digits)
hook_at h ds i =
    let digit : ℕ → Bool = λ j. get_or ds (j - 1) false in
    let between : Digits = take (h - 1) (drop i ds) in
    let exchanged : Digits = set (set ds (i - 1) true) (i + h - 1) false in
    cond (not (digit i) && digit (i + h)) (record { minus = odd (zeros between); leaves = exchanged } ∷ []) []

unfoldable pub hooks : ℕ → Digits → List (Hook Digits)
hooks h ds = joined (hook_at h ds) (up_from 1 (length ds))

abbrev pub hook_word : Hook Digits → Hook ℕ
hook_word hook = record { minus = hook.minus; leaves = word width (shifted hook.leaves) }

unfoldable pub hook_words : ℕ → ℕ → List (Hook ℕ)
hook_words h w = map hook_word (hooks h (digits width w))

-- What a hook of a word leaves (document 01, "Hook of length h"; "so that the word is again a good one").
--   Left h w hook   the hook leaves a good word, whose degree is less than that of w by h
use Rattle.std.specs.Prelude.{◌≡◌, ◌+◌}
use Rattle.theory.specs.Basics.{true, ℕ}
use Rattle.theory.specs.Partition.{degree}
use Rattle.theory.specs.ShapeWord.{shape_of, good_shape}
use Rattle.theory.specs.Hooks.{Hook}

pub record Left (h w : ℕ) (hook : Hook ℕ) : Type 0 where
  pub good : good_shape hook.leaves ≡ true
  pub lower : degree (shape_of hook.leaves) + h ≡ degree (shape_of w)

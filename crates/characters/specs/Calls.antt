-- What the calls on characters promise (document 01, "The character", "Order"). Each has the name of what it gives. The
-- limit on degrees comes first.
use Rattle.theory.specs.Basics.{ℕ}
use Rattle.theory.specs.Character.{◌on◌, character_degree}
use Rattle.theory.specs.ShapeWord.{shape_of}
use Rattle.theory.specs.ClassWord.{class_of}
use Rattle.theory.specs.Refusals.{shape_checks, pair_checks}
use Rattle.words.specs.Answers.{numbered}
use Rattle.words.specs.Answers.{NumberAnswer}
pub mod Laws

module _ (limit : ℕ) where
  unfoldable pub character_of : ℕ → ℕ → NumberAnswer
  character_of s c = numbered (pair_checks limit s c) (shape_of s on class_of c)

  unfoldable pub shape_character_degree : ℕ → NumberAnswer
  shape_character_degree s = numbered (shape_checks limit s) (character_degree (shape_of s))

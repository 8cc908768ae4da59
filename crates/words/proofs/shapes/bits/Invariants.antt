-- The bits so far, and the word of the rows left in the digits left, are the whole word.
use Rattle.std.specs.Prelude.{◌≡◌, ◌+◌, ◌≤◌}
use Rattle.theory.specs.Basics.{drop}
use Rattle.theory.specs.Digits.{word}
use Rattle.theory.specs.ShapeWord.{shape_digits, shape_word}
use Rattle.theory.proofs.ShapeWord.Words.{HasRoom}
use Rattle.words.proofs.shapes.bits.Given as goal

abbrev pub invariant-loop-i : goal.invariant-loop-i
invariant-loop-i l =
    HasRoom l.left (drop l.i l.parts) × (l.left ≤ 31)
    × (shape_word l.parts ≡ l.bits + word l.left (shape_digits (drop l.i l.parts)))

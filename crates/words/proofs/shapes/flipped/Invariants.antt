-- What is put out so far, and below it the digits left, complemented and lowest first, are the conjugate.
use Rattle.std.specs.Prelude.{◌≡◌, ◌+◌, ◌-◌, ◌≤◌}
use Rattle.theory.specs.Digits.{word}
use Rattle.theory.specs.ShapeWord.{conjugate_word}
use Rattle.theory.proofs.ShapeWord.Flips.{flips}
use Rattle.words.proofs.shapes.flipped.Given as goal

abbrev pub invariant-loop-left : goal.invariant-loop-left
invariant-loop-left l =
    (l.after ≤ l.left) × (conjugate_word l.word ≡ l.out + word l.left (flips (l.left - l.after) l.rest))

-- `words::shapes::row_count`: rows, ones and trailing zeros are all 31 digits.
use Rattle.std.specs.Prelude.{◌≡◌, ◌+◌}
use Rattle.std.proofs.Common.{sym, ap, ◌∙◌, arith, pos_of_ne-zero}
use Rattle.std.specs.Int.Count.{count_trailing_zeros}
use lib.Count
use Rattle.theory.specs.Basics.{ℕ, length}
use Rattle.theory.proofs.Digits.Low.{trailing-more}
use Rattle.theory.specs.ShapeWord.{shape_of}
use Rattle.theory.proofs.ShapeWord.Reading.{ones-digits}
use Rattle.theory.proofs.ShapeWord.Counts.{rows-trailing, rows-of-zero}
use Rattle.words.proofs.shapes.row_count.Goals as goal

counted : (c : goal.Else-word-eq0)
    → let w = c.args.word in
    length (shape_of w) + Count.ones w + count_trailing_zeros 32 w ≡ 31
counted c =
    let w = c.args.word in
    let h = c.requires in
    rw (trailing-more 31 w (pos_of_ne-zero c.if-word-eq0.false) h, ← ones-digits 31 w h) (rows-trailing 31 w)

pub returns-then-word-eq0 : goal.returns-then-word-eq0
returns-then-word-eq0 c = sym (ap (λ (w : ℕ). length (shape_of w)) c.if-word-eq0.true ∙ ap length (rows-of-zero 31))

pub overflow_sub-result-2 : goal.overflow_sub-result-2
overflow_sub-result-2 c = omega (arith, counted c)

pub returns : goal.returns
returns c = omega (arith, counted c)

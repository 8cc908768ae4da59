-- `words::shapes::conjugate`: the good word of one that the reader passes is flipped, and has its shape.
use Rattle.std.proofs.Common.{◌∙◌, refl}
use Rattle.std.proofs.lemmas.Result.{err_from_is_err_and}
use native.Mathlib.Omega.{arith}
use Rattle.theory.specs.ShapeWord.{conjugate_word}
use Rattle.theory.proofs.ShapeWord.Conjugate.{one-conjugate}
use Rattle.theory.specs.Refusals.{shape_checks}
use Rattle.theory.specs.Limits.{degree_limit}
use Rattle.words.specs.Calls.{conjugate_shape}
use Rattle.words.proofs.Answers.{word-refused, word-given}
use Rattle.words.proofs.Readings.{read-within, read-shape, reading-number, shape-read}
use Rattle.words.proofs.Told.{refuses}
use Rattle.words.proofs.shapes.conjugate.Goals as goal

pub returns-in_err-shape : goal.returns-in_err-shape
unfolding conjugate_shape
returns-in_err-shape c =
    let p = err_from_is_err_and c.from_residual.result c.from_residual.ensures.1 in
    let w = c.args.word in
    rw (p.1, p.2)
    (word-refused (shape_checks degree_limit w) (conjugate_word w) _
    (reading-number degree_limit w _ c.in_err-shape.ensures) (refuses _))

pub flipped-requires : goal.flipped-requires
flipped-requires c = omega (arith, (read-within (shape-read degree_limit _ _ c.in_ok-shape.ensures refl)).good.below)

pub returns : goal.returns
unfolding conjugate_shape
returns c =
    let w = c.args.word in
    let read = shape-read degree_limit w _ c.in_ok-shape.ensures refl in
    word-given (shape_checks degree_limit w) (conjugate_word w) _ read.none
    (c.flipped.ensures ∙ one-conjugate _ w (read-shape read))

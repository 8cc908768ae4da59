-- `words::shapes::degree`: refused as the reader refuses, or the degree that it read.
use Rattle.std.proofs.Common.{refl, ap}
use Rattle.std.proofs.lemmas.Result.{err_from_is_err_and}
use Rattle.theory.specs.Basics.{pos}
use Rattle.theory.specs.Partition.{degree}
use Rattle.theory.specs.ShapeWord.{shape_of}
use Rattle.theory.specs.Refusals.{shape_checks}
use Rattle.theory.specs.Limits.{degree_limit}
use Rattle.words.specs.Calls.{shape_degree}
use Rattle.words.proofs.Answers.{number-refused, number-given}
use Rattle.words.proofs.Readings.{reading-number, shape-read}
use Rattle.words.proofs.Told.{refuses}
use Rattle.words.proofs.shapes.degree.Goals as goal

pub returns-in_err-shape : goal.returns-in_err-shape
unfolding shape_degree
returns-in_err-shape c =
    let p = err_from_is_err_and c.from_residual.result c.from_residual.ensures.1 in
    let w = c.args.word in
    rw (p.1, p.2)
    (number-refused (shape_checks degree_limit w) _ _ (reading-number degree_limit w _ c.in_err-shape.ensures) (refuses _))

pub returns : goal.returns
unfolding shape_degree
returns c =
    let w = c.args.word in
    let read = shape-read degree_limit w _ c.in_ok-shape.ensures refl in
    number-given (shape_checks degree_limit w) (pos (degree (shape_of w))) _ read.none (ap pos read.degree)

-- `words::shapes::measure`: refused as the reader refuses, or the degree that it read and the rows counted.
use Rattle.std.proofs.Common.{refl, sym}
use Rattle.std.proofs.lemmas.Result.{err_from_is_err_and}
use borrow.Author.Tests.{ltb-true}
use Rattle.std.proofs.Common.{◌^◌}
use Rattle.theory.specs.Digits.{width}
use Rattle.theory.specs.Limits.{degree_limit}
use Rattle.theory.proofs.Refusals.Laws.{shape-clear}
use Rattle.words.proofs.Readings.{reading-number, shape-read}
use Rattle.words.proofs.shapes.measure.Goals as goal

pub returns-in_err-shape : goal.returns-in_err-shape
returns-in_err-shape c =
    let p = err_from_is_err_and c.from_residual.result c.from_residual.ensures.1 in
    rw (p.1, p.2)
    (record { refused = reading-number degree_limit c.args.word _ c.in_err-shape.ensures; given = tt })

pub row_count-requires : goal.row_count-requires
row_count-requires c =
    let w = c.args.word in
    let none = (shape-read degree_limit w _ c.in_ok-shape.ensures refl).none in
    ltb-true w (2 ^ width) (shape-clear degree_limit w none)

pub returns : goal.returns
returns c =
    let read = shape-read degree_limit c.args.word _ c.in_ok-shape.ensures refl in
    record { refused = sym read.none; given = (read.degree, c.row_count.ensures) }

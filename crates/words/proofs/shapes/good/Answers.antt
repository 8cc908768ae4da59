-- `words::shapes::good`: the word and the ones dropped of what the reader reads.
use Rattle.std.proofs.lemmas.Result.{err_from_is_err_and}
use Rattle.theory.specs.Limits.{degree_limit}
use Rattle.words.proofs.Readings.{reading-good}
use Rattle.words.proofs.shapes.good.Goals as goal

pub returns-in_err-shape : goal.returns-in_err-shape
returns-in_err-shape c =
    let p = err_from_is_err_and c.from_residual.result c.from_residual.ensures.1 in
    rw (p.1, p.2) (reading-good degree_limit c.args.word _ c.in_err-shape.ensures)

pub returns : goal.returns
returns c = reading-good degree_limit c.args.word _ c.in_ok-shape.ensures

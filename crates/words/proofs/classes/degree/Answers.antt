-- `words::classes::degree`: refused as the reader refuses, or the degree that it measured.
use Rattle.std.proofs.Common.{ap}
use Rattle.std.proofs.lemmas.Result.{err_from_is_err_and}
use Rattle.theory.specs.Basics.{pos}
use Rattle.theory.specs.ClassWord.{class_of}
use Rattle.theory.specs.Refusals.{class_checks}
use Rattle.theory.specs.Limits.{degree_limit}
use Rattle.words.specs.Calls.{class_degree}
use Rattle.words.proofs.Answers.{number-given}
use Rattle.words.proofs.Measures.{number-handed, measures}
use Rattle.words.proofs.classes.degree.Goals as goal

pub returns-in_err-measure : goal.returns-in_err-measure
unfolding class_degree
returns-in_err-measure c =
    let p = err_from_is_err_and c.from_residual.result c.from_residual.ensures.1 in
    rw (p.1, p.2) (number-handed _ _ _ c.in_err-measure.ensures)

pub returns : goal.returns
unfolding class_degree
returns c =
    let w = c.args.word in
    let m = measures (class_checks degree_limit w) (class_of w) c.in_ok-measure.ensures in
    number-given (class_checks degree_limit w) _ _ m.none (ap pos m.degree)

-- The weight stands in front of the first semicolon.
use Rattle.std.proofs.Common.{sym, ◌∙◌}
use lib.Seq.{length-take-le}
use Rattle.sessiontext.proofs.CoefficientLines.{front_cut, no-weight, line-told, weight-handed}
use Rattle.sessiontext.proofs.coefficients.line_in.Goals as goal

pub slice_bounds-integer_in-end : goal.slice_bounds-integer_in-end
slice_bounds-integer_in-end c = sym (length-take-le _ _ (front_cut c.args.line.now c.find-first.ensures).fits)

pub returns-in_err-coefficient : goal.returns-in_err-coefficient
returns-in_err-coefficient c =
    let cut = front_cut c.args.line.now c.find-first.ensures in
    rw c.from_residual-in_err-coefficient.ensures
    (no-weight c.args.line.now (rw cut.front at c.in_err-coefficient.ensures))

pub returns : goal.returns
returns c =
    let cut = front_cut c.args.line.now c.find-first.ensures in
    let word = c.in_ok-word.ensures in
    let weight = rw cut.front at c.in_ok-coefficient.ensures in
    line-told c.args.line.now weight.0 (weight-handed c.args.line.now weight.0 weight.1 ∙ weight.1) word.0 word.1

use Rattle.std.proofs.Common.{sym}
use lib.Seq.{length-take-le}
use Rattle.sessiontext.proofs.Told.{some-left, none-left}
use Rattle.sessiontext.proofs.AllLines.{line-ends, behind-line}
use Rattle.sessiontext.proofs.CoefficientLines.{faultless-all, faultless-fault, faultless-next, none-told, some-told}
use Rattle.sessiontext.proofs.coefficients.first_fault.Goals as goal

pub slice_bounds-waiting_line-end : goal.slice_bounds-waiting_line-end
slice_bounds-waiting_line-end c =
    sym (length-take-le _ _ (line-ends c.loop-rest.rest.now c.line_end-end.ensures).fits)

pub returns-then-is_none : goal.returns-then-is_none
returns-then-is_none c =
    faultless-fault _ c.loop-rest.invariant (some-left _ c.loop-rest-test.ensures) c.line_end-end.ensures
    (none-told _ c.waiting_line.result c.waiting_line.ensures c.is_none.ensures c.if-is_none.true)

pub slice_bounds-rest-count : goal.slice_bounds-rest-count
slice_bounds-rest-count c = (line-ends c.loop-rest.rest.now c.line_end-end.ensures).fits

pub slice_bounds-rest-start : goal.slice_bounds-rest-start
slice_bounds-rest-start c = (line-ends c.loop-rest.rest.now c.line_end-end.ensures).fits

pub loop-rest-smaller : goal.loop-rest-smaller
loop-rest-smaller c =
    (behind-line (line-ends c.loop-rest.rest.now c.line_end-end.ensures).behind
    (some-left _ c.loop-rest-test.ensures)).shorter

pub loop-rest-preserved : goal.loop-rest-preserved
loop-rest-preserved c =
    faultless-next _ c.loop-rest.invariant (some-left _ c.loop-rest-test.ensures) c.line_end-end.ensures
    (some-told _ c.waiting_line.result c.waiting_line.ensures c.is_none.ensures c.if-is_none.false)

pub returns : goal.returns
returns c = faultless-all _ c.loop-rest.invariant (none-left _ c.loop-rest-test.ensures)

use Rattle.std.proofs.Common.{sym}
use lib.Seq.{length-take-le}
use Rattle.sessiontext.proofs.Told.{is-told, some-left, none-left}
use Rattle.sessiontext.proofs.AllLines.{line-ends, behind-line}
use Rattle.sessiontext.proofs.CoefficientLines.{down-all, down-formed, down-room, down-next}
use Rattle.sessiontext.proofs.coefficients.put.Goals as goal

pub slice_bounds-line_in-end : goal.slice_bounds-line_in-end
slice_bounds-line_in-end c =
    sym (length-take-le _ _ (line-ends c.loop-rest.rest.now c.line_end-end.ensures).fits)

pub unwrap-read-requires : goal.unwrap-read-requires
unwrap-read-requires c =
    is-told c.line_in.result _ c.line_in.ensures
    (down-formed _ _ _ c.loop-rest.invariant (some-left _ c.loop-rest-test.ensures) c.line_end-end.ensures)

pub bounds-page-count : goal.bounds-page-count
bounds-page-count c =
    (down-room _ _ _ c.loop-rest.invariant (some-left _ c.loop-rest-test.ensures) c.line_end-end.ensures).0

pub bounds-column-count : goal.bounds-column-count
bounds-column-count c =
    (down-room _ _ _ c.loop-rest.invariant (some-left _ c.loop-rest-test.ensures) c.line_end-end.ensures).1

pub slice_bounds-rest-count : goal.slice_bounds-rest-count
slice_bounds-rest-count c = (line-ends c.loop-rest.rest.now c.line_end-end.ensures).fits

pub slice_bounds-rest-start : goal.slice_bounds-rest-start
slice_bounds-rest-start c = (line-ends c.loop-rest.rest.now c.line_end-end.ensures).fits

pub loop-rest-smaller : goal.loop-rest-smaller
loop-rest-smaller c =
    (behind-line (line-ends c.loop-rest.rest.now c.line_end-end.ensures).behind
    (some-left _ c.loop-rest-test.ensures)).shorter

pub loop-rest-preserved : goal.loop-rest-preserved
loop-rest-preserved c =
    let read = rw c.unwrap-read.ensures at c.line_in.ensures in
    down-next _ _ _ c.loop-rest.invariant (some-left _ c.loop-rest-test.ensures) c.line_end-end.ensures read.1 read.2

pub returns : goal.returns
returns c = down-all _ _ _ c.loop-rest.invariant (none-left _ c.loop-rest-test.ensures)

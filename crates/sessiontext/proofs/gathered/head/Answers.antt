-- The mode's line is compared, and the six behind it are read.
use Rattle.std.proofs.Common.{sym}
use lib.Seq.{length-take-le}
use Rattle.sessiontext.proofs.GatheredHeads.{front_fits, rest-whole, mode-fault, head-fault, head_read}
use Rattle.sessiontext.proofs.gathered.head.Goals as goal

pub slice_bounds-same-end : goal.slice_bounds-same-end
slice_bounds-same-end c = sym (length-take-le _ _ (front_fits _ c.line_end-front.ensures))

pub returns-then-not-same : goal.returns-then-not-same
returns-then-not-same c = mode-fault _ c.line_end-front.ensures c.same.ensures c.if-not-same.true

pub slice_bounds-head-count : goal.slice_bounds-head-count
slice_bounds-head-count c = front_fits _ c.line_end-front.ensures

pub slice_bounds-head-start : goal.slice_bounds-head-start
slice_bounds-head-start c = front_fits _ c.line_end-front.ensures

pub returns-in-Ok : goal.returns-in-Ok
returns-in-Ok c =
    let plain = rw (rest-whole _ c.line_end-front.ensures) at c.in-Ok.ensures in
    head_read _ c.line_end-front.ensures c.same.ensures c.if-not-same.false plain

pub returns-in-Err : goal.returns-in-Err
returns-in-Err c =
    let plain = rw (rest-whole _ c.line_end-front.ensures) at c.in-Err.ensures in
    head-fault _ c.line_end-front.ensures c.same.ensures c.if-not-same.false plain.0 plain.1

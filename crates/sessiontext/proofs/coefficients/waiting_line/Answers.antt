-- The line that was read is written out and compared with the text.
use Rattle.std.proofs.Common.{refl}
use Rattle.sessiontext.proofs.Own.{own-count}
use Rattle.sessiontext.proofs.Told.{compared-own}
use Rattle.sessiontext.proofs.CoefficientLines.{line-unread, handed-storable, weighted-own, weighted-told, weighted-read}
use Rattle.sessiontext.proofs.coefficients.waiting_line.Goals as goal

pub returns-in_err-read : goal.returns-in_err-read
returns-in_err-read c = rw c.from_residual.ensures (line-unread c.args.line.now c.in_err-read.ensures)

pub line-end-requires : goal.line-end-requires
line-end-requires c =
    let read = c.in_ok-read.ensures in
    handed-storable c.args.line.now read.0 read.1 read.2

pub slice_bounds-own-end : goal.slice_bounds-own-end
slice_bounds-own-end c =
    let read = c.in_ok-read.ensures in
    (weighted-own c.args.line.now read.0 read.1 read.2 c.line-end.ensures refl).inside

pub slice_bounds-same-end : goal.slice_bounds-same-end
slice_bounds-same-end c =
    let read = c.in_ok-read.ensures in
    own-count (weighted-own c.args.line.now read.0 read.1 read.2 c.line-end.ensures refl)

pub returns : goal.returns
returns c =
    let read = c.in_ok-read.ensures in
    let line = compared-own c.same.ensures (weighted-own c.args.line.now read.0 read.1 read.2 c.line-end.ensures refl) in
    weighted-read c.args.line.now read.0 read.1 read.2 c.then_some.ensures (weighted-told c.args.line.now read.0 line)

-- The line that was read is written out and compared with the text.
use Rattle.std.proofs.Common.{refl}
use Rattle.sessiontext.proofs.Own.{own-count}
use Rattle.sessiontext.proofs.Told.{compared-own, told}
use Rattle.sessiontext.proofs.WaitingLines.{waiting-unread, its-storable, waiting-own, waiting-told}
use Rattle.sessiontext.proofs.waiting.waiting.Goals as goal

pub returns-in_err-word : goal.returns-in_err-word
returns-in_err-word c = rw c.from_residual.ensures (waiting-unread _ c.in_err-word.ensures)

pub line-end-requires : goal.line-end-requires
line-end-requires c = let read = c.in_ok-word.ensures in its-storable _ read.0 read.1

pub slice_bounds-own-end : goal.slice_bounds-own-end
slice_bounds-own-end c =
    let read = c.in_ok-word.ensures in
    (waiting-own _ read.0 read.1 c.line-end.ensures refl).inside

pub slice_bounds-same-end : goal.slice_bounds-same-end
slice_bounds-same-end c =
    let read = c.in_ok-word.ensures in
    own-count (waiting-own _ read.0 read.1 c.line-end.ensures refl)

pub returns : goal.returns
returns c =
    let read = c.in_ok-word.ensures in
    let line = compared-own c.same.ensures (waiting-own _ read.0 read.1 c.line-end.ensures refl) in
    told c.then_some.ensures (waiting-told _ read.0 line) (λ e. read.1)

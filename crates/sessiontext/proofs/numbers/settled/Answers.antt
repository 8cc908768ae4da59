-- The number is written out and compared with the line.
use Rattle.std.proofs.Common.{refl, ◌∙◌}
use Rattle.sessiontext.proofs.Own.{own-count}
use Rattle.sessiontext.proofs.Told.{compared-own, told}
use Rattle.sessiontext.proofs.Settled.{settled-kept, settled-unread, settled-own, settled-line}
use Rattle.sessiontext.proofs.numbers.settled.Goals as goal

pub returns-in_err-number : goal.returns-in_err-number
returns-in_err-number c = rw c.from_residual.ensures (settled-unread _ c.in_err-number.ensures)

pub slice_bounds-own-end : goal.slice_bounds-own-end
slice_bounds-own-end c =
    let read = c.in_ok-number.ensures in
    (settled-own _ read.0 read.1 c.line-end.ensures refl).inside

pub slice_bounds-same-end : goal.slice_bounds-same-end
slice_bounds-same-end c =
    let read = c.in_ok-number.ensures in
    own-count (settled-own _ read.0 read.1 c.line-end.ensures refl)

pub returns : goal.returns
returns c =
    let read = c.in_ok-number.ensures in
    let line = compared-own c.same.ensures (settled-own _ read.0 read.1 c.line-end.ensures refl) in
    told c.then_some.ensures (settled-line _ read.0 read.1 line) (λ e. settled-kept _ read.0 read.1 ∙ read.1)

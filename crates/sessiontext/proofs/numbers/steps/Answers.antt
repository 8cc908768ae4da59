use Rattle.sessiontext.proofs.NumberLines.{steps-read, steps-unread}
use Rattle.sessiontext.proofs.numbers.steps.Goals as goal

pub returns-in_err-steps : goal.returns-in_err-steps
returns-in_err-steps c = rw c.from_residual.ensures (steps-unread _ c.in_err-steps.ensures)

pub returns : goal.returns
returns c =
    let read = c.in_ok-steps.ensures in
    rw c.ok.ensures.value (steps-read _ _ c.try_from.ensures read.0 read.1)

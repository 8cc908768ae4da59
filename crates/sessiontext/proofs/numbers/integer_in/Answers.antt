-- A size and a sign, where 64 bits hold both.
use Rattle.sessiontext.proofs.Settled.{found-minus, integer-read}
use Rattle.sessiontext.proofs.numbers.integer_in.Goals as goal

pub returns : goal.returns
returns c =
    let t = c.args.text.now in
    integer-read t _ (rw (found-minus t c.find.ensures, c.number_in-size.ensures) at c.signed.ensures)

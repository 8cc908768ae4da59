-- One digit or two are the text itself, and of greater numbers `io::decimal` gives the fewest digits, which are the text.
use Rattle.std.proofs.Common.{◌≡◌, ◌∙◌, arith, take}
use Rattle.text.specs.Text.{decimal}
use Rattle.text.specs.Text.Decimals.{one-digit, two_digits, decimal-digits}
use Rattle.text.specs.Wrote.Laws.{wrote_then}
use Rattle.text.proofs.numbers.U64Written.write.Goals as goal

pub returns-then-self-lt10 : goal.returns-then-self-lt10
returns-then-self-lt10 c = rw (one-digit c.args.self c.if-self-lt10.true) c.byte.ensures

pub returns-then-self-lt100 : goal.returns-then-self-lt100
returns-then-self-lt100 c =
    rw (two_digits c.args.self c.if-self-lt10.false c.if-self-lt100.true)
    (wrote_then c.byte-end.ensures (omega arith) c.byte-then-self-lt100.ensures)

pub returns : goal.returns
returns c =
    let made = c.decimal-count in
    let text : take made.result made.new.out ≡ decimal c.args.self =
    made.ensures.digits ∙ decimal-digits _ _ c.ranges.self.fits made.ensures.len in
    rw (← text) c.put.ensures

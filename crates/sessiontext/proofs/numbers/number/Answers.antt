-- The number is written out and compared with the line.
use Rattle.std.proofs.Common.{arith}
use Rattle.sessiontext.proofs.Own.{own, own-count}
use Rattle.sessiontext.proofs.Told.{compared-own}
use Rattle.sessiontext.proofs.NumberLines.{number_short, number_read}
use Rattle.sessiontext.proofs.numbers.number.Goals as goal

pub slice_bounds-own-end : goal.slice_bounds-own-end
slice_bounds-own-end c = (own c.line-end.ensures (number_short c.requires _) (omega arith)).inside

pub slice_bounds-same-end : goal.slice_bounds-same-end
slice_bounds-same-end c = own-count (own c.line-end.ensures (number_short c.requires _) (omega arith))

pub returns : goal.returns
returns c =
    number_read c.requires c.number_in-number.ensures
    (compared-own c.same.ensures (own c.line-end.ensures (number_short c.requires _) (omega arith)))
    c.then_some.ensures

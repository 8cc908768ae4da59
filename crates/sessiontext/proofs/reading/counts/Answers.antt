-- The number is written out and compared with the line.
use Rattle.std.proofs.Common.{arith}
use Rattle.text.specs.Text.{ascii, decimal, field}
use Rattle.theory.proofs.Basics.Keep.{same_test}
use Rattle.theory.proofs.Basics.Laws.{same_lists}
use Rattle.sessiontext.specs.SessionText.Room.{number-length}
use Rattle.sessiontext.specs.Reading.Forms.{self as same-is}
use Rattle.sessiontext.proofs.Own.{own, own-count}
use Rattle.sessiontext.proofs.Told.{compared-own}
use Rattle.sessiontext.proofs.reading.counts.Goals as goal

pub slice_bounds-own-end : goal.slice_bounds-own-end
slice_bounds-own-end c =
    (own c.line-end.ensures (omega (arith, number-length (ascii "lines=") c.args.count)) (omega arith)).inside

pub slice_bounds-same-end : goal.slice_bounds-same-end
slice_bounds-same-end c =
    own-count (own c.line-end.ensures (omega (arith, number-length (ascii "lines=") c.args.count)) (omega arith))

pub returns : goal.returns
returns c =
    let line = own c.line-end.ensures (omega (arith, number-length (ascii "lines=") c.args.count)) (omega arith) in
    let ask = compared-own c.same.ensures line in
    same_test _ _ (λ b. same-is (ask.0 b)) (λ e. ask.1 (same_lists _ (field "lines=" (decimal c.args.count)) e))

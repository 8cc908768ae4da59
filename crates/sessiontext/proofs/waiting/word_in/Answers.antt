-- The semicolons cut the line, and each list is read by itself.
use Rattle.std.proofs.Common.{sym}
use lib.Seq.{length-take-le}
use Rattle.sessiontext.proofs.WaitingLines.{cuts, sign_read, no-shape, no-class, line_word}
use Rattle.sessiontext.proofs.waiting.word_in.Goals as goal

pub slice_bounds-find-end : goal.slice_bounds-find-end
slice_bounds-find-end c =
    let cut = cuts _ c.find-first.ensures c.past-start.ensures c.find-second.ensures c.past-last.ensures in
    sym (length-take-le _ _ cut.first_fits)

pub slice_bounds-word_in-end : goal.slice_bounds-word_in-end
slice_bounds-word_in-end c =
    (cuts _ c.find-first.ensures c.past-start.ensures c.find-second.ensures c.past-last.ensures).second_fits

pub returns-in_err-shape : goal.returns-in_err-shape
returns-in_err-shape c =
    let cut = cuts _ c.find-first.ensures c.past-start.ensures c.find-second.ensures c.past-last.ensures in
    rw c.from_residual.ensures (no-shape c.args.line.now (rw cut.shape at c.in_err-shape.ensures))

pub returns-in_err-class : goal.returns-in_err-class
returns-in_err-class c =
    let cut = cuts _ c.find-first.ensures c.past-start.ensures c.find-second.ensures c.past-last.ensures in
    let shape = rw cut.shape at c.in_ok-shape.ensures in
    rw c.from_residual-in_err-class.ensures
    (no-class c.args.line.now shape.0 (rw cut.class at c.in_err-class.ensures))

pub returns : goal.returns
returns c =
    let cut = cuts _ c.find-first.ensures c.past-start.ensures c.find-second.ensures c.past-last.ensures in
    let shape = rw cut.shape at c.in_ok-shape.ensures in
    let class = rw cut.class at c.in_ok-class.ensures in
    line_word c.args.line.now (sign_read cut c.find.ensures) shape.0 shape.1 class.0 class.1 c.word.ensures

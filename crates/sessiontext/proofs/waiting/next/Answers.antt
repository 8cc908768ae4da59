-- What was read straight on is of its form, any other line is cut out and read by itself.
use Rattle.std.proofs.Common.{sym}
use lib.Seq.{length-take-le}
use Rattle.sessiontext.specs.SessionText.{plain_form}
use Rattle.sessiontext.specs.Reading.Forms.{waiting-is}
use Rattle.theory.specs.Limits.{degree_limit}
use Rattle.sessiontext.proofs.AllLines.{line-ends}
use Rattle.sessiontext.proofs.waiting.next.Goals as goal

pub returns-in-Some : goal.returns-in-Some
returns-in-Some c =
    let line = c.in-Some.ensures in
    (waiting-is plain_form degree_limit _ line.formed, line.word_is, line.behind)

pub slice_bounds-waiting-end : goal.slice_bounds-waiting-end
slice_bounds-waiting-end c =
    sym (length-take-le _ _ (line-ends c.args.text.now c.line_end-end.ensures).fits)

pub returns-in_err-word : goal.returns-in_err-word
returns-in_err-word c =
    let ends = line-ends c.args.text.now c.line_end-end.ensures in
    rw c.from_residual.ensures (rw ends.line at c.in_err-word.ensures)

pub slice_bounds-result-count : goal.slice_bounds-result-count
slice_bounds-result-count c = (line-ends c.args.text.now c.line_end-end.ensures).fits

pub slice_bounds-result-start : goal.slice_bounds-result-start
slice_bounds-result-start c = (line-ends c.args.text.now c.line_end-end.ensures).fits

pub returns : goal.returns
returns c =
    let ends = line-ends c.args.text.now c.line_end-end.ensures in
    let read = rw ends.line at c.in_ok-word.ensures in
    (read.0, read.1, ends.behind)

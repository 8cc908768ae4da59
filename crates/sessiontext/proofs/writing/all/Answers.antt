use Rattle.std.proofs.Common.{arith}
use native.Mathlib.Numerals.{add-one}
use lib.Seq.{take_all}
use Rattle.theory.proofs.Basics.AtPlace.{each_at}
use Rattle.theory.proofs.Basics.Laws.{each-mapped, joined-next}
use Rattle.theory.specs.Limits.{degree_limit}
use Rattle.text.specs.Wrote.Laws.{wrote_then}
use Rattle.pages.specs.Page.{line_of}
use Rattle.sessiontext.specs.SessionText.{line_text}
use Rattle.sessiontext.specs.SessionText.Laws.{joined-map}
use Rattle.sessiontext.specs.SessionText.Storable.{StorableLine}
use Rattle.sessiontext.proofs.writing.all.Goals as goal

pub line-end-requires : goal.line-end-requires
line-end-requires c =
    each_at (λ x. StorableLine degree_limit (line_of x)) c.args.lines.now 0 c.loop-word.word-index
    (each-mapped (StorableLine degree_limit) line_of c.args.lines.now c.requires) c.loop-word-test.true

pub loop-word-preserved : goal.loop-word-preserved
loop-word-preserved c =
    let next = joined-next (λ x. line_text (line_of x)) c.args.lines.now 0 c.loop-word.word-index c.loop-word-test.true in
    rw (add-one, next) (wrote_then c.loop-word.invariant (omega arith) c.line-end.ensures)

pub returns : goal.returns
returns c =
    let lines = c.args.lines.now in
    rw (joined-map line_text line_of lines)
    (rw (take_all c.loop-word.word-index lines c.loop-word-test.false) at c.loop-word.invariant)

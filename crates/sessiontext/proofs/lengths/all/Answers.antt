use Rattle.std.proofs.Common.{arith}
use native.Mathlib.Numerals.{add-one}
use lib.ListN.{length-append}
use lib.Seq.{take_all}
use Rattle.theory.proofs.Basics.AtPlace.{each_at}
use Rattle.theory.proofs.Basics.Laws.{each-mapped, joined-next}
use Rattle.theory.specs.Limits.{degree_limit}
use Rattle.pages.specs.Page.{line_of}
use Rattle.sessiontext.specs.SessionText.{line_text}
use Rattle.sessiontext.specs.SessionText.Laws.{joined-map}
use Rattle.sessiontext.specs.SessionText.Room.{plain-line-short}
use Rattle.sessiontext.specs.SessionText.Storable.{StorableLine}
use Rattle.sessiontext.proofs.lengths.all.Goals as goal

pub line-long-requires : goal.line-long-requires
line-long-requires c =
    each_at (λ x. StorableLine degree_limit (line_of x)) c.args.lines.now 0 c.loop-word.word-index
    (each-mapped (StorableLine degree_limit) line_of c.args.lines.now c.requires.0) c.loop-word-test.true

pub overflow_add-long : goal.overflow_add-long
overflow_add-long c =
    let line =
    each_at (λ x. StorableLine degree_limit (line_of x)) c.args.lines.now 0 c.loop-word.word-index
    (each-mapped (StorableLine degree_limit) line_of c.args.lines.now c.requires.0) c.loop-word-test.true in
    record {
      fits =
          omega (
            arith,
            c.line-long.ensures,
            plain-line-short _ line,
            c.loop-word-test.true,
            c.loop-word.invariant.1,
            c.requires.1,
          );
    }

pub loop-word-preserved : goal.loop-word-preserved
loop-word-preserved c =
    let lines = c.args.lines.now in
    let line =
    each_at (λ x. StorableLine degree_limit (line_of x)) lines 0 c.loop-word.word-index
    (each-mapped (StorableLine degree_limit) line_of lines c.requires.0) c.loop-word-test.true in
    let next = joined-next (λ x. line_text (line_of x)) lines 0 c.loop-word.word-index c.loop-word-test.true in (
      rw (add-one, next) (simp length-append (omega (arith, c.loop-word.invariant.0, c.line-long.ensures))),
      omega (arith, c.loop-word.invariant.1, c.line-long.ensures, plain-line-short _ line),
    )

pub returns : goal.returns
returns c =
    let lines = c.args.lines.now in
    rw (joined-map line_text line_of lines)
    (rw (take_all c.loop-word.word-index lines c.loop-word-test.false) at c.loop-word.invariant.0)

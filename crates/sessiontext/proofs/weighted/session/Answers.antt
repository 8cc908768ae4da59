-- `sessiontext::weighted::session`: the line of the mode, six lines, and the waiting lines.
use Rattle.std.proofs.Common.{arith}
use Rattle.text.specs.Wrote.Laws.{wrote_then, wrote-length}
use Rattle.pages.specs.Lawful.Gathered.{length-alongside}
use Rattle.sessiontext.specs.SessionText.{gathered_form}
use Rattle.sessiontext.specs.SessionText.Laws.{session-parts}
use Rattle.sessiontext.proofs.weighted.session.Goals as goal

pub returns : goal.returns
returns c =
    rw (session-parts gathered_form c.args.slip _, length-alongside _ _ c.requires.0)
    (wrote_then c.put-end.ensures (omega arith)
    (wrote_then c.head-end.ensures (omega (arith, wrote-length c.put-end.ensures)) c.all.ensures))

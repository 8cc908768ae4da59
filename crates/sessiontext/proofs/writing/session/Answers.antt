-- `sessiontext::writing::session`: the first six lines, and the waiting lines.
use Rattle.std.proofs.Common.{arith}
use lib.ListN.{length-map}
use Rattle.text.specs.Wrote.Laws.{wrote_then}
use Rattle.pages.specs.Page.{line_of}
use Rattle.sessiontext.specs.SessionText.{plain_form}
use Rattle.sessiontext.specs.SessionText.Laws.{session-parts}
use Rattle.sessiontext.proofs.writing.session.Goals as goal

pub returns : goal.returns
returns c =
    rw (session-parts plain_form c.args.slip _, length-map c.args.lines.now line_of)
    (wrote_then c.head-end.ensures (omega arith) c.all.ensures)

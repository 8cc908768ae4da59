-- `sessiontext::writing::head`: what was asked, and behind it what was reached.
use Rattle.std.proofs.Common.{arith}
use Rattle.text.specs.Wrote.Laws.{wrote_then}
use Rattle.sessiontext.proofs.writing.head.Goals as goal

pub returns : goal.returns
returns c = wrote_then c.asked-end.ensures (omega arith) c.reached.ensures

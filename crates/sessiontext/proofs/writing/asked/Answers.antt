-- `sessiontext::writing::asked`: three lines, one behind the other.
use Rattle.std.proofs.Common.{arith}
use Rattle.text.specs.Wrote.Laws.{wrote_then}
use Rattle.sessiontext.proofs.writing.asked.Goals as goal

pub returns : goal.returns
returns c =
    wrote_then (wrote_then c.degree-end.ensures (omega arith) c.shape-end.ensures) (omega arith) c.class.ensures

-- `sessiontext::writing::behind`: its parts, one behind the other.
use Rattle.std.proofs.Common.{arith}
use Rattle.text.specs.Wrote.Laws.{wrote_then}
use Rattle.sessiontext.proofs.writing.behind.Goals as goal

pub returns : goal.returns
returns c =
    let shape = wrote_then c.byte-end.ensures (omega arith) c.write-end.ensures in
    let class = wrote_then (wrote_then shape (omega arith) c.byte-end-2.ensures) (omega arith) c.write-end-2.ensures in
    wrote_then class (omega arith) c.byte.ensures

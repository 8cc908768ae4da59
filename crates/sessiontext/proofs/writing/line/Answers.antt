-- `sessiontext::writing::line`: a name, the sign and what stands behind it.
use Rattle.std.proofs.Common.{arith}
use Rattle.text.specs.Wrote.Laws.{wrote_then}
use Rattle.sessiontext.specs.SessionText.Faithful.Plain.{sign_read}
use Rattle.sessiontext.specs.SessionText.Laws.{weighted-parts}
use Rattle.sessiontext.proofs.writing.line.Goals as goal

pub returns : goal.returns
returns c =
    rw (sign_read _, ← c.minus.ensures, weighted-parts _ _ _)
    (wrote_then (wrote_then c.put-end.ensures (omega arith) c.sign-end.ensures) (omega arith) c.words_behind.ensures)

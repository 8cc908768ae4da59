use Rattle.sessiontext.proofs.Standing.{line-stands}
use Rattle.sessiontext.proofs.straight.line.Goals as goal

pub returns : goal.returns
returns c = line-stands c.in_ok-minus.minus c.in_ok-minus.ensures c.in_ok-shape.ensures c.in_ok-class.ensures c.word-3.ensures

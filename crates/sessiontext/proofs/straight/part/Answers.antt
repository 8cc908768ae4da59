use Rattle.std.proofs.Common.{arith}
use Rattle.sessiontext.proofs.Standing.{one-part, two-part}
use Rattle.sessiontext.proofs.straight.part.Goals as goal

pub returns-in-49 : goal.returns-in-49
returns-in-49 c = two-part c.args.text.now (omega arith) (omega arith) (omega arith) (omega arith)

pub returns-in-49-to-57 : goal.returns-in-49-to-57
returns-in-49-to-57 c = one-part c.args.text.now (omega arith) (omega arith)

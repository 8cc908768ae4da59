use Rattle.std.proofs.Common.{length}
use Rattle.sessiontext.proofs.AllLines.{Put}
use Rattle.sessiontext.proofs.waiting.put.Given as goal

abbrev pub invariant-loop-rest : goal.invariant-loop-rest
invariant-loop-rest l = Put l.text l.fn.page l.rest l.count l.page

abbrev pub decreases-loop-rest : goal.decreases-loop-rest
decreases-loop-rest l = length l.rest

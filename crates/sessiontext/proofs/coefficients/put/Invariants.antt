use Rattle.std.proofs.Common.{length}
use Rattle.sessiontext.proofs.CoefficientLines.{Down}
use Rattle.sessiontext.proofs.coefficients.put.Given as goal

abbrev pub invariant-loop-rest : goal.invariant-loop-rest
invariant-loop-rest l = Down l.text l.fn.page l.fn.column l.rest l.count l.page l.column

abbrev pub decreases-loop-rest : goal.decreases-loop-rest
decreases-loop-rest l = length l.rest

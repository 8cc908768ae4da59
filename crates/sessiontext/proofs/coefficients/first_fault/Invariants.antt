use Rattle.std.proofs.Common.{length}
use Rattle.sessiontext.proofs.CoefficientLines.{Faultless}
use Rattle.sessiontext.proofs.coefficients.first_fault.Given as goal

abbrev pub invariant-loop-rest : goal.invariant-loop-rest
invariant-loop-rest l = Faultless l.text l.rest l.number

abbrev pub decreases-loop-rest : goal.decreases-loop-rest
decreases-loop-rest l = length l.rest

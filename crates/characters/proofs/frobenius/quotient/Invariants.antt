use Rattle.std.proofs.Common.{◌-◌}
use Rattle.characters.proofs.Lengths.{Divides}
use Rattle.characters.proofs.frobenius.quotient.Given as goal

abbrev pub invariant-loop-length : goal.invariant-loop-length
invariant-loop-length l = Divides l.shape l.factorial l.lengths (l.length - 1)

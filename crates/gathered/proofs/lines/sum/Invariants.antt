-- What has been summed and what is left come to the whole.
use Rattle.theory.specs.Basics.{length}
use Rattle.theory.specs.Limits.{degree_limit}
use Rattle.pages.specs.Mode.{alongside}
use Rattle.characters.proofs.Sums.{Summing}
use Rattle.gathered.proofs.lines.sum.Given as goal

abbrev pub invariant-loop-line : goal.invariant-loop-line
invariant-loop-line l = Summing degree_limit (alongside l.lines l.coefficients) (length l.yielded) l.sum

-- Of the lines that were passed, those that stay are at the front.
use Rattle.gathered.proofs.Squeezing.{Squeezing}
use Rattle.gathered.proofs.joining.squeeze.Given as goal

abbrev pub invariant-loop-from : goal.invariant-loop-from
invariant-loop-from l = Squeezing l.fn.page l.fn.column l.page l.column l.to l.from

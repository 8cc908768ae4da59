use Rattle.std.proofs.Common.{length}
use Rattle.pages.specs.Budget.{budget_told}
use Rattle.sessiontext.proofs.AllLines.{Judged}
use Rattle.sessiontext.proofs.waiting.judge.Given as goal

abbrev pub invariant-loop-rest : goal.invariant-loop-rest
invariant-loop-rest l = Judged l.text (budget_told l.fn.budget) l.rest l.number (budget_told l.left)

abbrev pub decreases-loop-rest : goal.decreases-loop-rest
decreases-loop-rest l = length l.rest

-- `pages::soundness::spent` meets its contract: zeros say nothing of a word that is not so.
use Rattle.std.proofs.Common.{sym}
use Rattle.pages.specs.Budget.Laws.{overspent-stays}
use Rattle.pages.proofs.WordDegrees.{nothing_known}
use Rattle.pages.proofs.soundness.spent.Goals as goal

pub returns-in_err-budget : goal.returns-in_err-budget
returns-in_err-budget c = rw (c.from_residual.ensures, c.in_err-budget.was) (sym (overspent-stays _ _))

pub spent_with-requires-2 : goal.spent_with-requires-2
spent_with-requires-2 c = nothing_known 229

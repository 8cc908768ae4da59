-- `pages::soundness::paid` meets its contract: each test stops at no budget, or leaves it to those behind it.
use Rattle.pages.proofs.Budgets.{no_line, too-dear, too_long, all_paid}
use Rattle.pages.proofs.soundness.paid.Goals as goal

pub returns-then-degree-eq0 : goal.returns-then-degree-eq0
returns-then-degree-eq0 c = no_line _ _ c.if-degree-eq0.true

pub returns-in_err-value : goal.returns-in_err-value
returns-in_err-value c =
    rw c.from_residual.ensures (too-dear _ _ c.if-degree-eq0.false _ c.factorial.ensures c.in_err-value.ensures)

pub returns-in_err-span : goal.returns-in_err-span
returns-in_err-span c =
    rw c.from_residual-in_err-span.ensures
    (too_long _ _ c.if-degree-eq0.false _ c.factorial.ensures c.in_ok-value.ensures.0 _ c.span.ensures c.in_err-span.ensures)

pub returns : goal.returns
returns c =
    rw (c.in_ok-value.ensures.1, c.in_ok-span.ensures.1)
    (all_paid _ _ c.if-degree-eq0.false _ c.factorial.ensures c.in_ok-value.ensures.0 _ c.span.ensures c.in_ok-span.ensures.0)

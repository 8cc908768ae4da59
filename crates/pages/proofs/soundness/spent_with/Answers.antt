-- `pages::soundness::spent_with` meets its contract, line by line.
use Rattle.std.proofs.Common.{◌∙◌, ap, arith, ℕ, get_or}
use Rattle.pages.specs.Page.{line_of}
use Rattle.pages.specs.Private.Degrees.{sound_degree}
use Rattle.pages.proofs.Budgets.{sound-small, spent-next, spent-stops, spent-end}
use Rattle.pages.proofs.soundness.spent_with.Goals as goal

pub paid-requires : goal.paid-requires
paid-requires c = omega (arith, sound-small _ _ _ c.degree-degree.ensures.0, c.most_degree.ensures)

pub returns-in_err-left : goal.returns-in_err-left
returns-in_err-left c =
    let degree-is =
    c.degree-degree.ensures.0
    ∙ ap (λ (n : ℕ). sound_degree n (line_of (get_or c.args.lines.now c.loop-line.line-index 0))) c.most_degree.ensures in
    rw c.from_residual.ensures
    (spent-stops _ _ _ _ _ c.loop-line-test.true degree-is c.in_err-left.ensures ∙ c.loop-line.invariant.spent)

pub loop-line-preserved : goal.loop-line-preserved
loop-line-preserved c =
    let degree-is =
    c.degree-degree.ensures.0
    ∙ ap (λ (n : ℕ). sound_degree n (line_of (get_or c.args.lines.now c.loop-line.line-index 0))) c.most_degree.ensures in
    record {
      spent = spent-next _ _ _ _ _ _ c.loop-line-test.true degree-is c.in_ok-left.ensures ∙ c.loop-line.invariant.spent;
      knows = c.degree-degree.ensures.1;
    }

pub returns : goal.returns
returns c = spent-end _ _ _ _ c.loop-line-test.false ∙ c.loop-line.invariant.spent

-- `pages::soundness::sound` meets its contract: the lines fit, the budgets suffice for them, and zeros follow.
use Rattle.std.proofs.Common.{◌≡◌, ◌∙◌, sym, ap}
use Rattle.std.specs.Prelude.{Option}
use Rattle.pages.specs.declared.Budget.{Budget as Kept}
use Rattle.theory.specs.Basics.{List, ℕ, ◌=?◌, every}
use Rattle.theory.specs.Limits.{degree_limit}
use Rattle.pages.specs.Page.{Slip}
use Rattle.pages.specs.Mode.{plain_mode, waiting}
use Rattle.pages.specs.Budget.{budget_told, budget_of, spent_all, Budget}
use Rattle.pages.proofs.Budgets.{enough-told}
use Rattle.pages.proofs.SoundPages.{other-mode, lines_long, lines-dear, then-zeros}
use Rattle.clearing.proofs.Zeros.{all_from}
use Rattle.pages.proofs.soundness.sound.Goals as goal

module _ (slip : Slip) (page : List ℕ) (before after : Option Kept)
    (first : budget_told before ≡ budget_of degree_limit slip)
    (spent : budget_told after ≡ spent_all degree_limit (budget_told before) (waiting slip page)) where
  enough : (budget_told after).enough ≡ (spent_all degree_limit (budget_of degree_limit slip) (waiting slip page)).enough
  enough =
      ap (λ (b : Budget). b.enough) (spent ∙ ap (λ (b : Budget). spent_all degree_limit b (waiting slip page)) first)

pub returns-then-slip-ne-PLAIN : goal.returns-then-slip-ne-PLAIN
returns-then-slip-ne-PLAIN c = other-mode plain_mode degree_limit _ _ c.if-slip-ne-PLAIN.true

pub returns-then-page-lines : goal.returns-then-page-lines
returns-then-page-lines c = lines_long plain_mode degree_limit _ _ c.if-page-lines.true

pub returns-then-is_none : goal.returns-then-is_none
returns-then-is_none c =
    lines-dear _ c.args.slip _ c.if-slip-ne-PLAIN.false c.if-page-lines.false _
    (enough _ _ _ _ c.first-before.ensures c.spent.ensures) (sym (enough-told c.spent.result) ∙ c.if-is_none.ensures)

pub returns : goal.returns
returns c =
    c.is_clear.ensures ∙ ap (every (◌=? 0)) (all_from c.args.page.now c.args.slip.lines)
    ∙ then-zeros _ c.args.slip _ c.if-slip-ne-PLAIN.false c.if-page-lines.false _
    (enough _ _ _ _ c.first-before.ensures c.spent.ensures) (sym (enough-told c.spent.result) ∙ c.if-is_none.ensures)

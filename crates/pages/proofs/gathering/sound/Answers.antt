-- `pages::gathering::sound` meets its contract: the lines fit, no coefficient is 0 and the budgets suffice for them, no
-- two are equal, and zeros follow.
use Rattle.std.specs.Prelude.{◌&&◌}
use Rattle.std.proofs.Common.{◌≡◌, ◌∙◌, sym, ap}
use Rattle.theory.specs.Basics.{Bool, take, nat_abs, ◌=?◌, every}
use Rattle.theory.specs.Limits.{degree_limit}
use Rattle.pages.specs.Mode.{alongside, gathered_mode}
use Rattle.pages.specs.Budget.{Budget}
use Rattle.pages.specs.Private.Gathered.{afforded}
use Rattle.pages.proofs.SoundPages.{other-mode, lines_long}
use Rattle.pages.proofs.GatheredPages.{are_afforded, are_different, words_idle, some-test-fails, then-column}
use Rattle.clearing.proofs.Zeros.{all_from}
use Rattle.pages.proofs.gathering.sound.Goals as goal
use Rattle.pages.proofs.gathering.sound.Goals.{then-afforded, else-afforded, then-different, else-different}

pub returns-then-slip-ne-GATHERED : goal.returns-then-slip-ne-GATHERED
returns-then-slip-ne-GATHERED c = other-mode gathered_mode degree_limit _ _ c.if-slip-ne-GATHERED.true

pub returns-then-page-lines : goal.returns-then-page-lines
returns-then-page-lines c = lines_long gathered_mode degree_limit _ _ c.if-page-lines.true

pub returns-then-is_clear : goal.returns-then-is_clear
returns-then-is_clear c =
    let n = c.args.slip.lines in
    let paid : Bool = are_afforded degree_limit c.args.slip c.args.page.now c.args.coefficients.now in
    let apart : Bool = are_different degree_limit c.args.slip c.args.page.now c.args.coefficients.now in
    let idle : Bool = words_idle degree_limit c.args.slip c.args.page.now c.args.coefficients.now in
    let paid-is : c.afforded.result ≡ paid =
    c.afforded.ensures
    ∙ ap (λ (b : Budget). afforded degree_limit b (alongside (take n c.args.page.now) (take n c.args.coefficients.now)))
    c.budget-before.ensures in
    let both : c.if-afforded.value ≡ paid && apart =
    elim c.if-afforded.branch [
      | then-afforded w ↦ w.value-is ∙ w.different.ensures ∙ sym (ap (λ (b : Bool). b && apart) (sym paid-is ∙ w.if-afforded.true))
      | else-afforded w ↦ w.value-is ∙ w.if-afforded.false ∙ sym (ap (λ (b : Bool). b && apart) (sym paid-is ∙ w.if-afforded.false))
    ] in
    let tested : c.if-different.value ≡ paid && apart && idle =
    elim c.if-different.branch [
      | then-different w ↦
          w.value-is ∙ w.is_clear.ensures ∙ ap (every (◌=? 0)) (all_from c.args.page.now n)
          ∙ sym (ap (λ (b : Bool). b && idle) (sym both ∙ w.if-different.true))
      | else-different w ↦ w.value-is ∙ w.if-different.false ∙ sym (ap (λ (b : Bool). b && idle) (sym both ∙ w.if-different.false))
    ] in
    c.is_clear-then-is_clear.ensures ∙ ap (every (λ z. nat_abs z =? 0)) (all_from c.args.coefficients.now n)
    ∙ then-column degree_limit c.args.slip c.args.page.now c.args.coefficients.now c.if-slip-ne-GATHERED.false c.if-page-lines.false c.requires.1
    (sym tested ∙ c.if-is_clear.true)

pub returns-else-is_clear : goal.returns-else-is_clear
returns-else-is_clear c =
    let n = c.args.slip.lines in
    let paid : Bool = are_afforded degree_limit c.args.slip c.args.page.now c.args.coefficients.now in
    let apart : Bool = are_different degree_limit c.args.slip c.args.page.now c.args.coefficients.now in
    let idle : Bool = words_idle degree_limit c.args.slip c.args.page.now c.args.coefficients.now in
    let paid-is : c.afforded.result ≡ paid =
    c.afforded.ensures
    ∙ ap (λ (b : Budget). afforded degree_limit b (alongside (take n c.args.page.now) (take n c.args.coefficients.now)))
    c.budget-before.ensures in
    let both : c.if-afforded.value ≡ paid && apart =
    elim c.if-afforded.branch [
      | then-afforded w ↦ w.value-is ∙ w.different.ensures ∙ sym (ap (λ (b : Bool). b && apart) (sym paid-is ∙ w.if-afforded.true))
      | else-afforded w ↦ w.value-is ∙ w.if-afforded.false ∙ sym (ap (λ (b : Bool). b && apart) (sym paid-is ∙ w.if-afforded.false))
    ] in
    let tested : c.if-different.value ≡ paid && apart && idle =
    elim c.if-different.branch [
      | then-different w ↦
          w.value-is ∙ w.is_clear.ensures ∙ ap (every (◌=? 0)) (all_from c.args.page.now n)
          ∙ sym (ap (λ (b : Bool). b && idle) (sym both ∙ w.if-different.true))
      | else-different w ↦ w.value-is ∙ w.if-different.false ∙ sym (ap (λ (b : Bool). b && idle) (sym both ∙ w.if-different.false))
    ] in
    c.if-is_clear.false
    ∙ some-test-fails degree_limit c.args.slip c.args.page.now c.args.coefficients.now c.if-slip-ne-GATHERED.false c.if-page-lines.false c.requires.1
    (sym tested ∙ c.if-is_clear.false)

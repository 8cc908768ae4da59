-- `gathered::commits::committed` meets its contract: each return is the first check that applies, or the lines that
-- come of the step.
use Rattle.std.specs.Prelude.{Option, None, Some, ok_or}
use Rattle.std.specs.Result.{is_ok, result_unwrap_or}
use Rattle.std.proofs.Common.{◌≡◌, refl, sym, ap, ℕ, arith}
use borrow.Author.Tests.{clash}
use Rattle.std.specs.declared.result.Result.TheVariants.{Ok, Err}
use Rattle.words.specs.declared.refusal.Refusal.{Refusal}
use Rattle.words.specs.declared.refusal.Refusal.TheVariants.{PageFull}
use Rattle.words.specs.Answers.{number_of, refusal_of}
use Rattle.std.proofs.lemmas.Result.{err_from_is_err_and}
use Rattle.words.proofs.Told.{refuses}
use Rattle.gathered.proofs.Committing.{judge-refuses, no_line, on-page, strikable, not-struck}
use Rattle.gathered.proofs.Committing.{joinable, slip-fits, full, done}
use Rattle.gathered.proofs.commits.committed.Goals as goal

-- ---- what is left, where hook lines are joined to lines or the page is full
none-left : (o : Option ℕ) {e : Refusal} → Err e ≡ ok_or o PageFull → (o ≡ None) × (number_of e ≡ 10)
none-left None same = (refl, ap refusal_of same)
none-left (Some n) same = absurd (clash (ap is_ok same))

some-left : (o : Option ℕ) {n : ℕ} → Ok n ≡ ok_or o PageFull → o ≡ Some n
some-left None same = absurd (clash (sym (ap is_ok same)))
some-left (Some m) same = ap (λ r. Some (result_unwrap_or r 0)) (sym same)

-- ---- the returns

pub returns-in_err-refusal : goal.returns-in_err-refusal
returns-in_err-refusal c =
    let a = c.args in
    let p = err_from_is_err_and c.from_residual.result c.from_residual.ensures.1 in
    rw (p.1, p.2) (judge-refuses a.slip a.page.now a.coefficients.now a.line a.cycle a.strip.now _ c.in_err-refusal.ensures (refuses _))

pub returns-then-lines-line : goal.returns-then-lines-line
returns-then-lines-line c =
    let a = c.args in
    no_line a.slip a.page.now a.coefficients.now a.line a.cycle a.strip.now (sym c.in_ok-refusal.ensures) c.if-lines-line.true

pub offset_bounds-page-line : goal.offset_bounds-page-line
offset_bounds-page-line c =
    let a = c.args in
    omega (arith, on-page a.slip a.page.now a.coefficients.now a.line a.cycle a.strip.now (sym c.in_ok-refusal.ensures) c.if-lines-line.false)

pub bounds-page-line : goal.bounds-page-line
bounds-page-line c =
    let a = c.args in
    (on-page a.slip a.page.now a.coefficients.now a.line a.cycle a.strip.now (sym c.in_ok-refusal.ensures) c.if-lines-line.false).0

pub offset_bounds-coefficients-line : goal.offset_bounds-coefficients-line
offset_bounds-coefficients-line c =
    let a = c.args in
    omega (arith, on-page a.slip a.page.now a.coefficients.now a.line a.cycle a.strip.now (sym c.in_ok-refusal.ensures) c.if-lines-line.false)

pub slice_copy_out-strike : goal.slice_copy_out-strike
slice_copy_out-strike c =
    let a = c.args in
    (on-page a.slip a.page.now a.coefficients.now a.line a.cycle a.strip.now (sym c.in_ok-refusal.ensures) c.if-lines-line.false).1

pub strike-requires : goal.strike-requires
strike-requires c =
    let a = c.args in
    let p = strikable a.slip a.page.now a.coefficients.now a.line a.cycle a.strip.now (sym c.in_ok-refusal.ensures) c.if-lines-line.false in
    (p.0, p.1, refl, refl)

pub returns-in_err-struck : goal.returns-in_err-struck
returns-in_err-struck c =
    let a = c.args in
    let p = err_from_is_err_and c.from_residual-in_err-struck.result c.from_residual-in_err-struck.ensures.1 in
    rw (p.1, p.2) (not-struck a.slip a.page.now a.coefficients.now a.line a.cycle a.strip.now (sym c.in_ok-refusal.ensures) c.if-lines-line.false c.in_err-struck.ensures)

pub join_hooks-joined-requires : goal.join_hooks-joined-requires
join_hooks-joined-requires c =
    let a = c.args in
    joinable a.slip a.page.now a.coefficients.now a.line a.cycle a.strip.now (sym c.in_ok-refusal.ensures) c.if-lines-line.false c.in_ok-struck.ensures

pub returns-in_err-left : goal.returns-in_err-left
returns-in_err-left c =
    let a = c.args in
    let p = err_from_is_err_and c.from_residual-in_err-left.result c.from_residual-in_err-left.ensures.1 in
    let q = none-left c.join_hooks-joined.result c.in_err-left.ensures.value in
    rw (p.1, p.2, q.1) (full a.slip a.page.now a.coefficients.now a.line a.cycle a.strip.now (sym c.in_ok-refusal.ensures) c.if-lines-line.false c.in_ok-struck.ensures c.join_hooks-joined.ensures q.0)

pub next_slip-requires : goal.next_slip-requires
next_slip-requires c =
    let a = c.args in
    slip-fits a.slip a.page.now a.coefficients.now a.line a.cycle a.strip.now (sym c.in_ok-refusal.ensures) c.if-lines-line.false c.in_ok-struck.ensures

pub returns : goal.returns
returns c =
    let a = c.args in
    done a.slip a.page.now a.coefficients.now a.line a.cycle a.strip.now (sym c.in_ok-refusal.ensures) c.if-lines-line.false c.in_ok-struck.ensures c.join_hooks-joined.ensures (some-left c.join_hooks-joined.result c.in_ok-left.ensures.value) _ c.next_slip.ensures

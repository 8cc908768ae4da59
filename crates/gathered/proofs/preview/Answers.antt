-- `gathered::preview` meets its contract: each return is the first check that applies, or the preview of the line by
-- itself.
use Rattle.std.proofs.Common.{sym, arith}
use Rattle.std.proofs.lemmas.Result.{err_from_is_err_and}
use Rattle.theory.specs.Limits.{degree_limit}
use Rattle.words.proofs.Told.{refuses}
use Rattle.gathered.proofs.Reading.{passed}
use Rattle.gathered.proofs.Previews.{page-refuses, no-such-line, alone-previews}
use Rattle.gathered.proofs.preview.Goals as goal

pub returns-in_err-refusal : goal.returns-in_err-refusal
returns-in_err-refusal c =
    let p = err_from_is_err_and c.from_residual.result c.from_residual.ensures.1 in
    rw (p.1, p.2) (page-refuses _ _ _ _ _ _ _ _ c.in_err-refusal.ensures (refuses _))

pub returns-then-slip-line : goal.returns-then-slip-line
returns-then-slip-line c = no-such-line _ _ _ _ _ _ _ (sym c.in_ok-refusal.ensures) (omega (arith, c.if-slip-line.true))

pub offset_bounds-page-line : goal.offset_bounds-page-line
offset_bounds-page-line c =
    let p = passed degree_limit c.args.slip c.args.page.now c.args.coefficients.now (sym c.in_ok-refusal.ensures) in
    omega (arith, p.short, p.soundness.fit, c.if-slip-line.false)

pub bounds-page-line : goal.bounds-page-line
bounds-page-line c =
    omega (arith, (passed degree_limit c.args.slip c.args.page.now c.args.coefficients.now (sym c.in_ok-refusal.ensures)).soundness.fit, c.if-slip-line.false)

pub returns : goal.returns
returns c =
    alone-previews _ _ _ _ _ _ _ (sym c.in_ok-refusal.ensures) c.if-slip-line.false 0 (omega arith) _ c.alone.ensures
    c.preview.ensures

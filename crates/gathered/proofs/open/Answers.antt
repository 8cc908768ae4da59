-- `gathered::open` meets its contract: each return is the first check that applies, or what the plain opening gives and
-- leaves, with the first column beside it.
use Rattle.std.proofs.Common.{refl}
use Rattle.std.proofs.lemmas.Result.{err_from_is_err_and}
use Rattle.std.specs.declared.result.Result.TheVariants.{Err}
use Rattle.words.specs.declared.refusal.Refusal.{Refusal}
use Rattle.words.proofs.Told.{refuses}
use Rattle.pairs.proofs.WordPairs.{pair-refused, pair-passed}
use Rattle.pages.specs.Mode.{gathered_mode}
use Rattle.sessions.specs.Opening.Laws.{words-refuse}
use Rattle.gathered.proofs.Openings.{page-refuses, column-refuses, room-refuses}
use Rattle.gathered.proofs.Openings.{column-begins, line-opens}
use Rattle.gathered.proofs.open.Goals as goal

pub returns-in_err-common_degree : goal.returns-in_err-common_degree
returns-in_err-common_degree c =
    let p = err_from_is_err_and c.from_residual.result c.from_residual.ensures.1 in
    let e : Refusal = c.in_err-common_degree.field-0.0 in
    rw (p.1, p.2)
    (words-refuse gathered_mode _ _ _ (_, _) _ (pair-refused _ _ _ (Err e) c.in_err-common_degree.ensures) (refuses e))

pub returns-then-page-gt-PAGE_LIMIT : goal.returns-then-page-gt-PAGE_LIMIT
returns-then-page-gt-PAGE_LIMIT c =
    let p = pair-passed _ _ _ c.in_ok-common_degree.ensures in
    rw c.from.ensures (page-refuses _ _ _ _ _ p.none c.if-page-gt-PAGE_LIMIT.true)

pub returns-then-page-coefficients : goal.returns-then-page-coefficients
returns-then-page-coefficients c =
    let p = pair-passed _ _ _ c.in_ok-common_degree.ensures in
    rw c.from-then-page-coefficients.ensures
    (column-refuses _ _ _ _ _ p.none c.if-page-gt-PAGE_LIMIT.false c.if-page-coefficients.true)

pub returns-in_err-slip : goal.returns-in_err-slip
returns-in_err-slip c =
    let p = pair-passed _ _ _ c.in_ok-common_degree.ensures in
    let q = err_from_is_err_and c.from_residual-in_err-slip.result c.from_residual-in_err-slip.ensures.1 in
    rw (q.1, q.2)
    (room-refuses _ _ _ _ _ p.none c.if-page-gt-PAGE_LIMIT.false c.if-page-coefficients.false _ _ c.in_err-slip.ensures
    (refuses _))

pub begin-requires : goal.begin-requires
begin-requires c =
    let p = pair-passed _ _ _ c.in_ok-common_degree.ensures in
    column-begins _ _ _ _ c.args.coefficients.now p.none c.if-page-gt-PAGE_LIMIT.false c.if-page-coefficients.false _ _
    c.in_ok-slip.ensures refl

pub returns : goal.returns
returns c =
    let p = pair-passed _ _ _ c.in_ok-common_degree.ensures in
    line-opens _ _ _ _ _ p.none c.if-page-gt-PAGE_LIMIT.false c.if-page-coefficients.false _ _ c.in_ok-slip.ensures refl
    _ c.begin.ensures

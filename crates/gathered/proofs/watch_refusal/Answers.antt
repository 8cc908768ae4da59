-- `gathered::watch_refusal`: slip, page and coefficients come first, then kind and line.
use Rattle.std.proofs.lemmas.Result.{err_from_is_err_and}
use Rattle.theory.specs.Limits.{degree_limit}
use Rattle.pages.specs.Lawful.Gathered.{gathered-lawful}
use Rattle.words.proofs.Told.{refuses}
use Rattle.characters.proofs.WatchLaws.{page-first}
use Rattle.gathered.proofs.watch_refusal.Goals as goal

pub returns-in_err-refusal : goal.returns-in_err-refusal
returns-in_err-refusal c =
    let p = err_from_is_err_and c.from_residual.result c.from_residual.ensures.1 in
    let a = c.args in
    rw (p.1, p.2)
    (page-first gathered-lawful degree_limit a.slip (a.page.now, a.coefficients.now) a.kind a.line _
    c.in_err-refusal.ensures (refuses _))

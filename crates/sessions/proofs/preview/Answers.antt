-- `sessions::preview` meets its contract: each return is the first check that applies, or the new lines.
use Rattle.std.proofs.Common.{refl, sym, ◌≤◌, arith, length-take-le}
use Rattle.std.proofs.lemmas.Result.{err_from_is_err_and}
use Rattle.theory.specs.Limits.{degree_limit}
use Rattle.theory.specs.Bounds.Laws.{largest_limit}
use Rattle.words.proofs.Told.{refuses}
use Rattle.sessions.proofs.Strikes.{hooked, not-previewed, too_short, previewed}
use Rattle.sessions.proofs.preview.Goals as goal

small : degree_limit ≤ largest_limit
small = omega arith

pub returns-in_err-count : goal.returns-in_err-count
returns-in_err-count c =
    let p = err_from_is_err_and c.from_residual.result c.from_residual.ensures.1 in
    rw (p.1, p.2) (not-previewed _ small _ _ _ _ _ c.in_err-count.ensures (refuses _) _)

pub returns-then-strip-count : goal.returns-then-strip-count
returns-then-strip-count c =
    too_short _ small _ _ _ _ (hooked _ small _ _ _ _ _ c.in_ok-count.ensures refl) _ c.if-strip-count.true

pub slice_bounds-new-end : goal.slice_bounds-new-end
slice_bounds-new-end c = (hooked _ small _ _ _ _ _ c.in_ok-count.ensures refl).inside

pub slice_bounds-write_strip-end : goal.slice_bounds-write_strip-end
slice_bounds-write_strip-end c =
    sym (length-take-le _ _ (hooked _ small _ _ _ _ _ c.in_ok-count.ensures refl).inside)

pub returns : goal.returns
returns c =
    previewed _ small _ _ _ _ (hooked _ small _ _ _ _ _ c.in_ok-count.ensures refl) _ c.if-strip-count.false _
    c.write_strip.ensures

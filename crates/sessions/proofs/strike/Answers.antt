-- `sessions::strike` meets its contract: it is refused as line and cycle are, or the new lines are on the strip.
use Rattle.std.proofs.Common.{refl, ◌≤◌, arith}
use Rattle.std.proofs.lemmas.Result.{err_from_is_err_and}
use Rattle.theory.specs.Basics.{replicate}
use Rattle.theory.specs.Limits.{degree_limit}
use Rattle.theory.specs.Bounds.Laws.{largest_limit}
use Rattle.words.proofs.Told.{refuses}
use Rattle.sessions.proofs.Strips.{cycle-short}
use Rattle.sessions.proofs.Steps.{chosen_by}
use Rattle.sessions.proofs.Strikes.{strike-refused, strikes, struck-onto}
use Rattle.sessions.proofs.strike.Goals as goal

small : degree_limit ≤ largest_limit
small = omega arith

pub returns-in_err-class : goal.returns-in_err-class
returns-in_err-class c =
    let p = err_from_is_err_and c.from_residual.result c.from_residual.ensures.1 in
    rw (p.1, p.2) (strike-refused _ small _ _ _ _ _ _ c.in_err-class.ensures (refuses _))

pub offset_bounds-page-line : goal.offset_bounds-page-line
offset_bounds-page-line c =
    let n = (chosen_by _ _ _ _ _ _ c.in_ok-class.ensures refl).named in
    omega (arith, c.well_formed.1.0.1, n.there, n.soundness.fit)

pub bounds-page-line : goal.bounds-page-line
bounds-page-line c =
    let n = (chosen_by _ _ _ _ _ _ c.in_ok-class.ensures refl).named in
    omega (arith, n.there, n.soundness.fit)

pub overflow_cast-cycle : goal.overflow_cast-cycle
overflow_cast-cycle c =
    let k = chosen_by _ _ _ _ _ _ c.in_ok-class.ensures refl in
    let room = strikes _ small _ _ _ _ k.named _ (replicate degree_limit 0) k.class-left refl in
    record { fits = omega (arith, cycle-short _ _ _ _ room) }

pub strip-requires : goal.strip-requires
strip-requires c =
    let k = chosen_by _ _ _ _ _ _ c.in_ok-class.ensures refl in
    strikes _ small _ _ _ _ k.named _ _ k.class-left c.requires

pub returns : goal.returns
returns c =
    let k = chosen_by _ _ _ _ _ _ c.in_ok-class.ensures refl in
    struck-onto _ small _ _ _ _ k.named k.none _ _ _ c.strip.ensures

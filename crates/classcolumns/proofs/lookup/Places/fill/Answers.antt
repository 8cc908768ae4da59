-- The table is one of the cycles from the i-th on, and i falls.
use Rattle.std.proofs.Common.{arith}
use Rattle.classcolumns.proofs.Lifts.{fill-next}
use Rattle.classcolumns.proofs.lookup.Places.fill.Goals as goal

pub overflow_add-degree : goal.overflow_add-degree
overflow_add-degree c =
    let s = fill-next _ _ c.requires.cycles.0 _ _ _ c.loop-i.invariant c.loop-i-test.true in
    record { fits = omega (arith, s.of-degree, s.from.small) }

pub lift-requires : goal.lift-requires
lift-requires c =
    let s = fill-next _ _ c.requires.cycles.0 _ _ _ c.loop-i.invariant c.loop-i-test.true in
    record { i_in_bounds = (s.inside, s.of-degree); cycles = (s.from, s.kept) }

pub loop-i-preserved : goal.loop-i-preserved
loop-i-preserved c =
    let s = fill-next _ _ c.requires.cycles.0 _ _ _ c.loop-i.invariant c.loop-i-test.true in
    record { within = omega (arith, s.inside); of-degree = s.of-degree; kept = c.lift.ensures }

use Rattle.classcolumns.specs.Private.Places.{shape_places}
use Rattle.classcolumns.proofs.Lifts.{Filling}
use Rattle.classcolumns.proofs.lookup.Places.fill.Given as goal

abbrev pub invariant-loop-i : goal.invariant-loop-i
invariant-loop-i l = Filling shape_places l.cycles l.table l.i l.degree

use Rattle.std.proofs.Common.{◌+◌, drop}
use Rattle.theory.specs.Listing.{start}
use Rattle.classcolumns.specs.Private.Places.{shape_places}
use Rattle.classcolumns.proofs.Lifts.{Lifting}
use Rattle.classcolumns.proofs.lookup.Places.lift.Given as goal

abbrev pub invariant-loop-word : goal.invariant-loop-word
invariant-loop-word l = Lifting shape_places l.cycle (drop (l.i + 1) l.cycles) l.table (start l.degree + l.word-index)

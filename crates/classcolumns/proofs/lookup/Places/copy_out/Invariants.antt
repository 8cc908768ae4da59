use Rattle.std.proofs.Common.{drop}
use Rattle.words.proofs.Columns.{Putting}
use Rattle.classcolumns.specs.Private.Places.{shape_places}
use Rattle.classcolumns.specs.Private.Columns.{entries}
use Rattle.classcolumns.proofs.lookup.Places.copy_out.Given as goal

-- what is left of the entries goes to the places from i on
abbrev pub invariant-loop-i : goal.invariant-loop-i
invariant-loop-i l =
    Putting (entries shape_places l.table l.degree) l.fn.values l.values l.i (drop l.i (entries shape_places l.table l.degree))

use Rattle.classcolumns.specs.Private.Places.{shape_places}
use Rattle.classcolumns.specs.Private.Columns.{entry}
use Rattle.characters.proofs.HookSums.{Walked}
use Rattle.classcolumns.proofs.lookup.Places.hook_sum.Given as goal

-- the table's entries are the values that the walk sums
abbrev pub invariant-loop-hook : goal.invariant-loop-hook
invariant-loop-hook l = Walked (entry shape_places l.table) l.shape l.length l.hook-iterator l.sum

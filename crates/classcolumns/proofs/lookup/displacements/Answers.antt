-- `classcolumns::lookup::displacements`: the two tables are one.
use Rattle.std.proofs.Common.{refl}
use Rattle.classcolumns.specs.Private.Displacements.{displacement_table}
use Rattle.classcolumns.proofs.lookup.displacements.Goals as goal

pub returns : goal.returns
unfolding displacement_table
returns c = refl

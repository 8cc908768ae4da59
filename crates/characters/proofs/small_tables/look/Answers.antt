-- `characters::small_tables::look`: the row is that of the class, and the shape stands in it at its rank.
use Rattle.std.specs.Prelude.{◌<◌}
use Rattle.std.proofs.Common.{arith}
use borrow.Author.Rules.{sfits_of}
use mir.Facts.{to_z-of_z}
use Rattle.characters.specs.Private.SmallTables.{row_length}
use Rattle.characters.proofs.SmallTables.{row_of, row-entry, row_within}
use Rattle.characters.proofs.small_tables.look.Goals as goal

within : (c : goal.After-table_row-row) → c.shape_rank-of_shape.result < row_length
within c =
    let row = row_of c.requires.0.small c.class_rank-of_class.ensures c.table_row-row.ensures in
    rw c.shape_rank-of_shape.ensures (row_within row c.requires.1 c.requires.0.small)

pub offset_bounds-row-of_shape : goal.offset_bounds-row-of_shape
offset_bounds-row-of_shape c = omega (arith, within c)

pub bounds-row-of_shape : goal.bounds-row-of_shape
bounds-row-of_shape c = within c

pub returns : goal.returns
returns c =
    let row = row_of c.requires.0.small c.class_rank-of_class.ensures c.table_row-row.ensures in
    rw (to_z-of_z (sfits_of c.result-1.given), c.shape_rank-of_shape.ensures) (row-entry row c.requires.1)

-- `characters::small_tables::last_row`: the row is that of the cycles that are left.
use Rattle.std.proofs.Common.{subst}
use Rattle.characters.specs.Private.SmallTables.{RowOf}
use Rattle.characters.proofs.SmallTables.{row_of}
use Rattle.characters.proofs.small_tables.last_row.Goals as goal

pub returns : goal.returns
returns c =
    let left = c.cycles_left-left.ensures in
    subst (RowOf c.table_row.result) left.1 (row_of left.0.small c.class_rank.ensures c.table_row.ensures)

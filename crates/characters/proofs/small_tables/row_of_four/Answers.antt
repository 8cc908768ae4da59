-- `characters::small_tables::row_of_four`: the table is the one that was computed.
use Rattle.std.proofs.Common.{refl, ◌∙◌, arith}
use Rattle.theory.specs.Listing.{partition_counts}
use Rattle.theory.proofs.Listing.Laws.{count_kept}
use Rattle.characters.specs.Private.SmallTables.{small_tables}
use Rattle.characters.proofs.SmallTables.{table-long}
use Rattle.characters.proofs.small_tables.row_of_four.Goals as goal

pub returns : goal.returns
unfolding small_tables partition_counts
returns c =
    let size = count_kept 4 (omega arith) in
    record {
      long = table-long 4 c.args.rank (omega arith) (rw size c.requires) ∙ size;
      holds = λ i h. refl;
    }

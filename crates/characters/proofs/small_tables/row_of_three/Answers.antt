-- `characters::small_tables::row_of_three`: the row is copied number by number.
use Rattle.std.specs.Prelude.{◌∷◌}
use Rattle.std.proofs.Common.{refl, arith}
use borrow.Author.Rules.{sfits_of}
use mir.Facts.{to_z-of_z}
use Rattle.theory.specs.Basics.{[], pos}
use Rattle.theory.specs.Listing.{partition_counts}
use Rattle.theory.proofs.Listing.Laws.{count_kept}
use Rattle.characters.proofs.SmallTables.{row_copied}
use Rattle.characters.proofs.small_tables.row_of_three.Goals as goal

pub returns : goal.returns
unfolding partition_counts
returns c =
    let one = c.three_at in
    let two = c.three_at-2 in
    let three = c.three_at-3 in
    rw (
      to_z-of_z (sfits_of {z = one.result} one.type_inv),
      one.ensures,
      to_z-of_z (sfits_of {z = two.result} two.type_inv),
      two.ensures,
      to_z-of_z (sfits_of {z = three.result} three.type_inv),
      three.ensures,
    )
    (row_copied 3 c.args.rank 3 (pos 0 ∷ pos 0 ∷ []) (count_kept 3 (omega arith)) refl)

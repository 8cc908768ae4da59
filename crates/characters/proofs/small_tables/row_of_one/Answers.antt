-- `characters::small_tables::row_of_one`: the tables of degree 0 and 1 are those that were computed, and their row is
-- one number.
use Rattle.std.specs.Prelude.{◌∷◌}
use Rattle.std.proofs.Common.{refl, arith}
use borrow.Author.Rules.{sfits_of}
use mir.Facts.{to_z-of_z}
use Rattle.theory.specs.Basics.{ℕ, List, [], ℤ, pos}
use Rattle.theory.specs.Listing.{partition_counts}
use Rattle.theory.proofs.Listing.Laws.{count_kept}
use Rattle.characters.specs.Private.SmallTables.{small_tables}
use Rattle.characters.proofs.SmallTables.{row_copied}
use Rattle.characters.proofs.small_tables.row_of_one.Goals as goal

pub returns : goal.returns
unfolding small_tables partition_counts
returns c =
    let rank : ℕ = c.args.rank in
    let zeros : List ℤ = pos 0 ∷ pos 0 ∷ pos 0 ∷ pos 0 ∷ [] in
    let none = row_copied 0 rank 1 zeros (count_kept 0 (omega arith)) refl in
    let one = row_copied 1 rank 1 zeros (count_kept 1 (omega arith)) refl in
    rw (to_z-of_z (sfits_of c.result-2-1.given)) (none, one)

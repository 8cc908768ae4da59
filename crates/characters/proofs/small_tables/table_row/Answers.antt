-- `characters::small_tables::table_row`: the zeros behind the last one tell the degree, and the row is that of the table
-- of that degree.
use Rattle.std.specs.Prelude.{◌≡◌, ◌<◌}
use Rattle.std.proofs.Common.{arith}
use Rattle.std.specs.Int.Count.{count_trailing_zeros}
use native.Mathlib.Decide.{ℕ_discrete}
use Rattle.theory.specs.Basics.{ℕ, length}
use Rattle.theory.specs.Partition.{degree}
use Rattle.theory.specs.Digits.{width}
use Rattle.theory.specs.ClassWord.{class_of}
use Rattle.theory.proofs.ClassWord.Reading.{degree-told}
use Rattle.theory.specs.Listing.{listing, partition_counts}
use Rattle.theory.proofs.Listing.Laws.{count_kept}
use Rattle.characters.specs.Private.SmallTables.{SmallClass}
use Rattle.characters.proofs.SmallTables.{Found, found}
use Rattle.characters.proofs.small_tables.table_row.Goals as goal

-- ---- degree 4, 3 and 2
module _ {w r : ℕ} (s : SmallClass w) (ranked : r < length (listing (degree (class_of w)))) where
  four : count_trailing_zeros 32 w ≡ 27 → Found w r 4 5
  unfolding partition_counts
  four e = found 4 (omega arith) s ranked (omega arith)

  three : count_trailing_zeros 32 w ≡ 28 → Found w r 3 3
  unfolding partition_counts
  three e = found 3 (omega arith) s ranked (omega arith)

  two : count_trailing_zeros 32 w ≡ 29 → Found w r 2 2
  unfolding partition_counts
  two e = found 2 (omega arith) s ranked (omega arith)

pub row_of_four-requires : goal.row_of_four-requires
row_of_four-requires c = (four c.requires.0 c.requires.1 c.if-zeros-eq27.true).within

pub returns-then-zeros-eq27 : goal.returns-then-zeros-eq27
returns-then-zeros-eq27 c = rw (four c.requires.0 c.requires.1 c.if-zeros-eq27.true).of c.row_of_four.ensures

pub row_of_three-requires : goal.row_of_three-requires
row_of_three-requires c = (three c.requires.0 c.requires.1 c.if-zeros-eq28.true).within

pub returns-then-zeros-eq28 : goal.returns-then-zeros-eq28
returns-then-zeros-eq28 c = rw (three c.requires.0 c.requires.1 c.if-zeros-eq28.true).of c.row_of_three.ensures

pub row_of_two-requires : goal.row_of_two-requires
row_of_two-requires c = (two c.requires.0 c.requires.1 c.if-zeros-eq29.true).within

pub returns-then-zeros-eq29 : goal.returns-then-zeros-eq29
returns-then-zeros-eq29 c = rw (two c.requires.0 c.requires.1 c.if-zeros-eq29.true).of c.row_of_two.ensures

-- ---- degree 1 or 0
pub row_of_one-requires : goal.row_of_one-requires
unfolding partition_counts
row_of_one-requires c =
    let told = degree-told width c.args.class c.requires.0.below in
    let n = degree (class_of c.args.class) in
    elim (ℕ_discrete n 0) [
      | yes none ↦ rw (none, count_kept 0 (omega arith)) at c.requires.1
      | no some ↦
          let one : n ≡ 1 = omega (arith, told, c.requires.0.small, some) in
          rw (one, count_kept 1 (omega arith)) at c.requires.1
    ]

pub returns : goal.returns
returns c =
    let told = degree-told width c.args.class c.requires.0.below in
    let n = degree (class_of c.args.class) in
    elim (ℕ_discrete n 0) [
      | yes none ↦ rw none c.row_of_one.ensures.0
      | no some ↦
          let one : n ≡ 1 = omega (arith, told, c.requires.0.small, some) in
          rw one c.row_of_one.ensures.1
    ]

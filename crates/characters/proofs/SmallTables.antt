-- Laws of the tables of degree 0 to 4, and of their rows. What speaks of the numbers themselves is a computed test over
-- all of them.
--   table_columns   for each degree with a table, the columns of its classes in listing order
--   entry n r i    entry i of the row of rank r in the table of degree n
--   Found w r n k  the degree of the class word w is n, and r is one of its k ranks
use Rattle.std.specs.Prelude.{◌++◌, ◌+◌, ◌-◌}
use mathlib.Core.Path.{◌≡◌, refl, ◌∙◌, ap}
use Prim.Native.Nat.{◌≤◌, ◌<◌}
use native.Mathlib.Omega.{arith}
use lib.Count.{count_trailing_zeros}
use lib.ListN.{length-append, length-map, get_or-append}
use borrow.Author.Tests.{leb-true}
use Rattle.theory.specs.Basics.{true, List, [], map, length, get_or, every, up_from}
use Rattle.theory.specs.Basics.{ℕ, suc, ◌≤?◌, ℤ, pos}
use Rattle.theory.proofs.Basics.AtPlace.{map_at, up-length, map-up-at, every-up}
use Rattle.theory.specs.Partition.{Parts, degree}
use Rattle.theory.specs.Digits.{digits, width}
use Rattle.theory.specs.ShapeWord.{shape_of}
use Rattle.theory.proofs.ShapeWord.Laws.{rows-partition}
use Rattle.theory.specs.ClassWord.{class_of}
use Rattle.theory.proofs.ClassWord.Reading.{degree-told}
use Rattle.theory.specs.Character.{◌on◌, character}
use Rattle.theory.specs.Listing.{listing, partitions, rank, partition_counts}
use Rattle.theory.proofs.Listing.Laws.{count_kept}
use Rattle.theory.proofs.Listing.Ranks.{Stands, at-rank, listed}
use Rattle.theory.specs.Column.{column}
use Rattle.theory.proofs.Column.Laws.{column-at, column-length}
use Rattle.characters.specs.Private.Evaluation.{Evaluable}
use Rattle.characters.specs.Private.SmallTables.{table_limit, row_length, small_tables, SmallClass, SameColumn}
use Rattle.characters.specs.Private.SmallTables.{TableRow, RowOf}

-- ---- the tables are those of 1954
abbrev table_columns : List (List (List ℤ))
table_columns = map (λ n. map column (listing n)) (up_from 0 (suc table_limit))

tables-computed : small_tables ≡ table_columns
unfolding small_tables column listing partitions character
tables-computed = refl

-- a row is the column of its class
module _ (n r : ℕ) (small : n ≤ table_limit) (within : r < length (listing n)) where
  pub table-column : get_or (get_or small_tables n []) r [] ≡ column (get_or (listing n) r [])
  table-column =
      ap (λ (tables : List (List (List ℤ))). get_or (get_or tables n []) r []) tables-computed
      ∙ ap (λ (table : List (List ℤ)). get_or table r [])
      (map-up-at (suc table_limit) n (omega arith) (λ n. map column (listing n)) [])
      ∙ map_at column (listing n) [] [] r within

  -- an entry is the character of its shape on its class: the rule of the tables, for readers
  pub table-entry : (i : ℕ) → i < length (listing n)
      → get_or (get_or (get_or small_tables n []) r []) i (pos 0) ≡ get_or (listing n) i [] on get_or (listing n) r []
  table-entry i h =
      let class : Parts = get_or (listing n) r [] in
      let e = (at-rank n r within).of-degree in
      rw table-column (rw e at (column-at class i (rw e h)))

  pub table-long : length (get_or (get_or small_tables n []) r []) ≡ length (listing n)
  table-long =
      let class : Parts = get_or (listing n) r [] in
      rw table-column (column-length class ∙ ap (λ (n : ℕ). length (listing n)) (at-rank n r within).of-degree)

-- a row that is copied number by number, with others after it
module _ (n r k : ℕ) (after : List ℤ) where
  abbrev entry : ℕ → ℤ
  entry i = get_or (get_or (get_or small_tables n []) r []) i (pos 0)

  pub row_copied : length (listing n) ≡ k → k + length after ≡ row_length
      → TableRow n r (map entry (up_from 0 k) ++ after)
  row_copied size long =
      let whole : length (map entry (up_from 0 k)) ≡ k = length-map (up_from 0 k) entry ∙ up-length 0 k in
      record {
        long = rw (length-append, whole) long;
        holds = λ i h.
            get_or-append (map entry (up_from 0 k)) after (pos 0) i (omega arith)
            ∙ map-up-at k i (omega arith) entry (pos 0);
      }

-- ---- the row at hand
few-listed : every (λ n. length (listing n) ≤? row_length) (up_from 0 (suc table_limit)) ≡ true
unfolding listing partitions
few-listed = refl

few-shapes : (n : ℕ) → n ≤ table_limit → length (listing n) ≤ row_length
few-shapes n small =
    leb-true (length (listing n)) row_length
    (every-up (suc table_limit) n (omega arith) (λ n. length (listing n) ≤? row_length) few-listed)

module _ {row : List ℤ} where
  pub row_of : {r : ℕ} {cs : Parts} → degree cs ≤ table_limit → SameColumn r cs → TableRow (degree cs) r row
      → RowOf row cs
  row_of {r} {cs} small ranked t =
      let same = table-column (degree cs) r small ranked.within ∙ ranked.same in
      record { long = t.long; holds = λ i h. t.holds i h ∙ ap (λ (l : List ℤ). get_or l i (pos 0)) same }

  module _ {limit s : ℕ} {cs : Parts} (of : RowOf row cs) (e : Evaluable limit s cs) where
    shape-stands : Stands (listing (degree cs)) (rank (shape_of s)) (shape_of s)
    shape-stands = rw e.degrees at (listed (shape_of s) (rows-partition (digits width s)))

    pub row-entry : get_or row (rank (shape_of s)) (pos 0) ≡ shape_of s on cs
    row-entry =
        let there = shape-stands in
        of.holds (rank (shape_of s)) there.within ∙ column-at cs (rank (shape_of s)) there.within
        ∙ ap (◌on cs) there.at

    pub row_within : degree cs ≤ table_limit → rank (shape_of s) < row_length
    row_within small = omega (arith, shape-stands.within, few-shapes (degree cs) small)

-- ---- the degree that a branch has found
pub record Found (w r n k : ℕ) : Type 0 where
  pub of : degree (class_of w) ≡ n
  pub size : length (listing n) ≡ k
  pub within : r < k

pub found : {w r : ℕ} (n : ℕ) → n ≤ table_limit → SmallClass w → r < length (listing (degree (class_of w)))
    → 31 - count_trailing_zeros 32 w ≡ n → Found w r n (get_or partition_counts n 0)
found {w} {r} n small s ranked zeros =
    let of = degree-told width w s.below ∙ zeros in
    let size = count_kept n (omega arith) in
    record { of = of; size = size; within = rw (of, size) at ranked }

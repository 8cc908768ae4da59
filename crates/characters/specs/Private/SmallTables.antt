-- The tables of degree 0 to 4 (document 02, P4), and what the functions that look there are asked.
--   table_limit        4: the greatest degree that has a table
--   row_length         5: the longest row has so many numbers
--   small_tables       the tables of the degrees 0 to 4: a row for each class, and in it a number for each shape
--   SmallClass w      a number of 31 digits whose parts, read as those of a class, have degree at most 4
--   SameColumn r cs   the class of rank r has the column of the cycles cs, as it has if these are its own in any order
--   TableRow n r row  five numbers that begin with the row of rank r in the table of degree n
--   RowOf row cs      five numbers that begin with the column of the cycles cs
--   cycles_left cs     what is left of the cycles cs when the first are struck until their degree is at most 4
use Rattle.std.specs.Prelude.{◌≡◌, ◌<◌, ◌≤◌, ◌∷◌, ◌^◌}
use Rattle.theory.specs.Basics.{cond, List, [], length, get_or, ℕ, ◌≤?◌, ℤ, pos, negsuc}
use Rattle.theory.specs.Partition.{Parts, degree}
use Rattle.theory.specs.Digits.{width}
use Rattle.theory.specs.ClassWord.{class_of}
use Rattle.theory.specs.Listing.{listing}
use Rattle.theory.specs.Column.{column}

abbrev pub table_limit : ℕ
table_limit = 4

abbrev pub row_length : ℕ
row_length = 5

unfoldable pub small_tables : List (List (List ℤ))
small_tables =
    ((p1 ∷ []) ∷ [])
    ∷ ((p1 ∷ []) ∷ [])
    ∷ ((p1 ∷ m1 ∷ []) ∷ (p1 ∷ p1 ∷ []) ∷ [])
    ∷ ((p1 ∷ m1 ∷ p1 ∷ []) ∷ (p1 ∷ p0 ∷ m1 ∷ []) ∷ (p1 ∷ p2 ∷ p1 ∷ []) ∷ [])
    ∷ ((p1 ∷ m1 ∷ p0 ∷ p1 ∷ m1 ∷ [])
    ∷ (p1 ∷ p0 ∷ m1 ∷ p0 ∷ p1 ∷ [])
    ∷ (p1 ∷ m1 ∷ p2 ∷ m1 ∷ p1 ∷ [])
    ∷ (p1 ∷ p1 ∷ p0 ∷ m1 ∷ m1 ∷ [])
    ∷ (p1 ∷ p3 ∷ p2 ∷ p3 ∷ p1 ∷ [])
    ∷ [])
    ∷ []
  where
    m1 : ℤ
    m1 = negsuc 0

    p0 : ℤ
    p0 = pos 0

    p1 : ℤ
    p1 = pos 1

    p2 : ℤ
    p2 = pos 2

    p3 : ℤ
    p3 = pos 3

pub record SmallClass (w : ℕ) : Type 0 where
  pub below : w < 2 ^ width
  pub small : degree (class_of w) ≤ table_limit

pub record SameColumn (r : ℕ) (cs : Parts) : Type 0 where
  pub within : r < length (listing (degree cs))
  pub same : column (get_or (listing (degree cs)) r []) ≡ column cs

pub record TableRow (n r : ℕ) (row : List ℤ) : Type 0 where
  pub long : length row ≡ row_length
  pub holds : (i : ℕ) → i < length (listing n)
      → get_or row i (pos 0) ≡ get_or (get_or (get_or small_tables n []) r []) i (pos 0)

pub record RowOf (row : List ℤ) (cs : Parts) : Type 0 where
  pub long : length row ≡ row_length
  pub holds : (i : ℕ) → i < length (listing (degree cs)) → get_or row i (pos 0) ≡ get_or (column cs) i (pos 0)

abbrev pub cycles_left : Parts → Parts
cycles_left [] = []
cycles_left (c ∷ cs) = cond (degree (c ∷ cs) ≤? table_limit) (c ∷ cs) (cycles_left cs)

-- The listing (document 01, "Listing").
--   partitions k most n   the partitions of n into at most k parts, none above most: the first part goes down from most
--   listing n             all partitions of n, in decreasing lexicographic order
--   Before l m            decreasing lexicographic order: at the first place where they differ, l has the larger part
--   rank ps               how many stand before ps in the listing of its degree; rank_in ps list, in any list
--   partition_counts       how many partitions the degrees 0 to 16 have, a list of constants
--   words_below m          the words of all shapes of degrees below m, degree by degree, each degree in listing order
--   start n               where the words of degree n start there, for any m above n
use Rattle.std.specs.Prelude.{◌<◌, ◌∷◌, ◌++◌, ◌-◌}
use Rattle.theory.specs.Basics.{cond, List, [], map, length, ℕ, zero, suc, ◌≤?◌, same, keep}
use Rattle.theory.specs.Basics.{joined, down_from}
use Rattle.theory.specs.Partition.{Parts, degree}
use Rattle.theory.specs.ShapeWord.{shape_word}
pub mod Order

unfoldable pub partitions : ℕ → ℕ → ℕ → List Parts
partitions zero most zero = [] ∷ []
partitions zero most (suc n) = []
partitions (suc k) most zero = [] ∷ []
partitions (suc k) most (suc n) =
    joined (λ p. map (λ ps. p ∷ ps) (partitions k p (suc n - p))) (keep (◌≤? suc n) (down_from most))

unfoldable pub listing : ℕ → List Parts
listing n = partitions n n n

pub data Before : Parts → Parts → Type 0 where
  larger : {p q : ℕ} {l m : Parts} → q < p → Before (p ∷ l) (q ∷ m)
  later : {p : ℕ} {l m : Parts} → Before l m → Before (p ∷ l) (p ∷ m)

unfoldable pub partition_counts : List ℕ
partition_counts =
    1 ∷ 1 ∷ 2 ∷ 3 ∷ 5 ∷ 7 ∷ 11 ∷ 15 ∷ 22 ∷ 30 ∷ 42 ∷ 56 ∷ 77 ∷ 101 ∷ 135 ∷ 176 ∷ 231 ∷ []

abbrev pub rank_in : Parts → List Parts → ℕ
rank_in ps [] = 0
rank_in ps (q ∷ list) = cond (same ps q) 0 (suc (rank_in ps list))

unfoldable pub rank : Parts → ℕ
rank ps = rank_in ps (listing (degree ps))

unfoldable pub words_below : ℕ → List ℕ
words_below zero = []
words_below (suc n) = words_below n ++ map shape_word (listing n)

abbrev pub start : ℕ → ℕ
start n = length (words_below n)

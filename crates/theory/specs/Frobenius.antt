-- Frobenius's quotient (document 000, formula 10).
--   l_numbers rs      the l_i of the rows rs: l_i is row i and the number of rows below it
--   differences ls   the differences l_i - l_j, of each number less each later one
--   frobenius rs     n! times the product of the differences, divided by l_1! l_2! .. l_k!
use Rattle.std.specs.Prelude.{◌∷◌, ◌++◌, ◌+◌, ◌-◌, ◌*◌, ◌/◌}
use Rattle.theory.specs.Basics.{List, [], map, length, ℕ, product}
use Rattle.theory.specs.Partition.{Parts, degree}
use Rattle.theory.specs.Bounds.{factorial}

abbrev pub l_numbers : Parts → List ℕ
l_numbers [] = []
l_numbers (r ∷ rs) = (r + length rs) ∷ l_numbers rs

abbrev pub differences : List ℕ → List ℕ
differences [] = []
differences (l ∷ ls) = map (l -◌) ls ++ differences ls

unfoldable pub frobenius : Parts → ℕ
frobenius rs =
    let ls : List ℕ = l_numbers rs in
    factorial (degree rs) * product (differences ls) / product (map factorial ls)

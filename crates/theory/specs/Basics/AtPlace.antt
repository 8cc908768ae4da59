-- A table's rule.
--   tabled f i ns   whether the table ns has f i, f (i + 1), .. : the rule of a table as one test, which computes
use Rattle.std.specs.Prelude.{◌&&◌, ◌∷◌}
use Rattle.theory.specs.Basics.{Bool, true, List, [], ℕ, suc, ◌=?◌}

abbrev pub tabled : (ℕ → ℕ) → ℕ → List ℕ → Bool
tabled f i [] = true
tabled f i (n ∷ ns) = n =? f i && tabled f (suc i) ns

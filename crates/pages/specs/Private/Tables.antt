-- Tables that are lent to private functions.
--   Tabled limit f table   the table has the values of f for the degrees within the limit
use Rattle.std.specs.Prelude.{◌≡◌}
use Rattle.theory.specs.Basics.{true, List, length, ℕ, suc}
use Rattle.theory.specs.Basics.AtPlace.{tabled}

pub record Tabled (limit : ℕ) (f : ℕ → ℕ) (table : List ℕ) : Type 0 where
  pub size : length table ≡ suc limit
  pub rule : tabled f 0 table ≡ true

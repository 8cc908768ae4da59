-- What the listing lists.
--   UpTo p n ps    ps is a partition of n whose parts are at most p
use Rattle.std.specs.Prelude.{◌≡◌, ◌≤◌}
use Rattle.theory.specs.Basics.{true, ℕ}
use Rattle.theory.specs.Partition.{Parts, first, is_partition, degree}

pub record UpTo (p n : ℕ) (ps : Parts) : Type 0 where
  pub partition : is_partition ps ≡ true
  pub low : first ps ≤ p
  pub whole : degree ps ≡ n

-- Part lists that have no part 0.
--   NoZero ps    no part is 0
use Rattle.std.specs.Prelude.{◌∷◌}
use Rattle.theory.specs.Basics.{[], ℕ, suc}
use Rattle.theory.specs.Partition.{Parts}

pub data NoZero : Parts → Type 0 where
  none : NoZero []
  some : {p : ℕ} {ps : Parts} → NoZero ps → NoZero (suc p ∷ ps)

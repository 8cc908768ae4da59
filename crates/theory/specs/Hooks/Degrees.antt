-- What a character degree is (document 01, "Character degree of a shape").
--   Positive z   z is 1 or more
use Rattle.std.specs.Prelude.{◌≡◌}
use Rattle.theory.specs.Basics.{ℕ, suc}
use Rattle.theory.specs.Basics.{ℤ, pos}

pub record Positive (z : ℤ) : Type 0 where
  pub before : ℕ
  pub is : z ≡ pos (suc before)

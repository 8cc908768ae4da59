-- Words of one shape (document 02, P6; "Demand 2's one word is the good one").
--   SameShape v w   v and w are words of one shape, their sign digits clear
use Rattle.std.specs.Prelude.{◌≡◌}
use Rattle.theory.specs.Basics.{true, ℕ}
use Rattle.theory.specs.ShapeWord.{shape_of, clear_sign}

pub record SameShape (v w : ℕ) : Type 0 where
  pub first-clear : clear_sign v ≡ true
  pub second-clear : clear_sign w ≡ true
  pub shapes : shape_of v ≡ shape_of w

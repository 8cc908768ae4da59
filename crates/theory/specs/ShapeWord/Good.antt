-- A good shape word (document 01, "Good shape words are exactly the numbers below 2^30"), as a record.
--   GoodShape w   w is a good shape word
use Rattle.std.specs.Prelude.{◌<◌, ◌^◌}
use Rattle.theory.specs.Basics.{ℕ}
use Rattle.theory.specs.ShapeWord.{shape_width}

pub record GoodShape (w : ℕ) : Type 0 where
  pub below : w < 2 ^ shape_width

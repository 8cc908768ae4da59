-- A good shape word (document 01, "Good shape words are exactly the numbers below 2^30"), as a record.
use Rattle.std.specs.Prelude.{◌≡◌, ◌^◌}
use Rattle.std.proofs.Common.{ltb-true, lt-ltb}
use Rattle.theory.specs.Basics.{true, ℕ}
use Rattle.theory.specs.ShapeWord.{shape_width, good_shape}
use Rattle.theory.specs.ShapeWord.Good.{GoodShape}

pub good-shape : (w : ℕ) → good_shape w ≡ true → GoodShape w
good-shape w e = record { below = ltb-true w (2 ^ shape_width) e }

pub shape-good : {w : ℕ} → GoodShape w → good_shape w ≡ true
shape-good {w} g = lt-ltb w (2 ^ shape_width) g.below

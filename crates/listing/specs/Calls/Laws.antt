-- Two words of one shape have one rank (document 02, P6).
use Rattle.std.specs.Prelude.{◌≡◌}
use Rattle.theory.specs.Basics.{ℕ}
use Rattle.theory.specs.ShapeWord.InFront.{SameShape}
use Rattle.listing.specs.Calls.{shape_rank}

pub rank-alike : (limit : ℕ) {v w : ℕ} → SameShape v w → shape_rank limit v ≡ shape_rank limit w
unfolding shape_rank
rank-alike limit s = rw (s.first-clear, s.second-clear, s.shapes)

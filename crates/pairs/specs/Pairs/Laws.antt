-- Two words of one shape have the same in common with a class word (document 02, P6).
use Rattle.std.specs.Prelude.{◌≡◌}
use Rattle.theory.specs.Basics.{ℕ}
use Rattle.theory.specs.ShapeWord.InFront.{SameShape}
use Rattle.theory.proofs.ShapeWord.InFront.{one-good-word}
use Rattle.pairs.specs.Pairs.{degree_of_both}

pub pair-alike : (limit : ℕ) {v w : ℕ} → SameShape v w → (c : ℕ) → degree_of_both limit v c ≡ degree_of_both limit w c
unfolding degree_of_both
pair-alike limit {v} {w} s c = rw (s.first-clear, s.second-clear, s.shapes, one-good-word v w s.shapes)

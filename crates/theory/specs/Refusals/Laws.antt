-- What no check refuses.
--   Numbered checks      no check has the number 0
--   Within limit w       a good shape word of a degree within the limit; WithinClass limit w, a good class word
--   Matched limit s c    a good shape word and a good class word of one degree within the limit
use Rattle.std.specs.Prelude.{◌≡◌, ◌≤◌}
use Rattle.theory.specs.Basics.{true, List, ℕ, ◌<?◌, every}
use Rattle.theory.specs.Partition.{degree}
use Rattle.theory.specs.ShapeWord.{shape_of}
use Rattle.theory.specs.ShapeWord.Good.{GoodShape}
use Rattle.theory.specs.ClassWord.{class_of}
use Rattle.theory.specs.ClassWord.Laws.{GoodClass}
use Rattle.theory.specs.Refusals.{Check}

abbrev pub Numbered : List Check → Type 0
Numbered checks = every (λ check. 0 <? check.1) checks ≡ true

pub record Within (limit w : ℕ) : Type 0 where
  pub good : GoodShape w
  pub small : degree (shape_of w) ≤ limit

pub record WithinClass (limit w : ℕ) : Type 0 where
  pub good : GoodClass w
  pub small : degree (class_of w) ≤ limit

pub record Matched (limit s c : ℕ) : Type 0 where
  pub shape : Within limit s
  pub class : WithinClass limit c
  pub degrees : degree (shape_of s) ≡ degree (class_of c)

-- It is the definition's own expression, and the leading ones are fewer than 32.
use Rattle.std.specs.Prelude.{refl}
use Rattle.theory.specs.ShapeWord.Shifting.{ones_before, ones_out}
use Rattle.theory.proofs.ShapeWord.Shifting.{ones-few}
use Rattle.theory.specs.Hooks.Marks.Stretch.{raised}
use Rattle.hooks.proofs.leaves.Goals as goal

pub overflow_shl-result : goal.overflow_shl-result
unfolding ones_before
overflow_shl-result c = ones-few _

pub returns : goal.returns
unfolding raised ones_out ones_before
returns c = refl

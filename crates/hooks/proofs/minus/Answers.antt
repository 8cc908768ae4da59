-- It is the definition's own expression.
use Rattle.std.specs.Prelude.{refl}
use Rattle.theory.specs.Hooks.Marks.Stretch.{zeros_odd}
use Rattle.hooks.proofs.minus.Goals as goal

pub returns : goal.returns
unfolding zeros_odd
returns c = refl

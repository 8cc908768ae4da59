-- Nothing is left of a word that is shifted by 32 or more.
use Rattle.std.specs.Prelude.{refl}
use Rattle.std.proofs.Common.{sym, arith}
use Rattle.theory.specs.Hooks.Marks.Stretch.{stretch}
use Rattle.theory.proofs.Hooks.Marks.Stretch.{stretch-whole}
use Rattle.hooks.proofs.stretch.Goals as goal

pub returns-then-length-ge32 : goal.returns-then-length-ge32
returns-then-length-ge32 c = sym (stretch-whole c.args.length c.if-length-ge32.true c.args.zero (omega arith))

pub returns : goal.returns
unfolding stretch
returns c = refl

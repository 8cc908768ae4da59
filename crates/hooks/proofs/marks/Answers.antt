-- It is the definition's own expression, and no word has a hook of 32 or more.
use Rattle.std.specs.Prelude.{refl}
use Rattle.std.proofs.Common.{sym, arith}
use Rattle.theory.specs.Hooks.Marks.{marks}
use Rattle.theory.proofs.Hooks.Marks.Stretch.{marks-none}
use Rattle.hooks.proofs.marks.Goals as goal

pub returns-then-length-gt31 : goal.returns-then-length-gt31
returns-then-length-gt31 c = sym (marks-none c.args.length (omega arith) c.args.shape)

pub returns : goal.returns
unfolding marks
returns c = refl

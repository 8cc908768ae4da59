-- The marks are 31 digits, and the hooks at them are all.
use Rattle.hooks.proofs.Marked.{marks-below, marked-words}
use Rattle.hooks.proofs.of.Goals as goal

pub invariant_of-result : goal.invariant_of-result
invariant_of-result c = rw c.marks.ensures (marks-below _ _)

pub returns-clause-hooks : goal.returns-clause-hooks
returns-clause-hooks c long small = rw c.marks.ensures (marked-words c.args.length c.args.shape long small)

-- The first hook is that of the highest mark, and the others are those of the marks that are left.
use Rattle.std.proofs.Common.{sym, ◌∙◌, ap, arith}
use Rattle.std.proofs.lemmas.Grind.{common_steps}
use Rattle.theory.specs.Basics.{length}
use Rattle.hooks.proofs.Marked.{marked-none, marked-next}
use Rattle.hooks.proofs.HooksIterator.next.Goals as goal

pub returns-then-self-eq0-clause-steps : goal.returns-then-self-eq0-clause-steps
returns-then-self-eq0-clause-steps c =
    let none = sym c.self.view_is ∙ rw c.if-self-eq0.true (marked-none c.self.inside.length c.self.inside.shape) in
    (none, none)

pub overflow_sub-self : goal.overflow_sub-self
overflow_sub-self c =
    let hooks = c.self.inside in
    omega (arith, (marked-next hooks.length hooks.shape hooks.left (omega arith) c.self.invariant).takes)

pub returns-clause-steps : goal.returns-clause-steps
returns-clause-steps c =
    let hooks = c.self.inside in
    rw (c.minus.ensures, c.leaves.ensures, c.stretch-stretch.ensures) (sym c.self.view_is
    ∙ (marked-next hooks.length hooks.shape hooks.left (omega arith) c.self.invariant).rest)

pub returns-clause-goes : goal.returns-clause-goes
returns-clause-goes c = grind (arith, common_steps, ap length (returns-clause-steps c))

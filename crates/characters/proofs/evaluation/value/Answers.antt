-- `characters::evaluation::value`: at degree 4 or less it is looked up, on (1^n) it is Frobenius's quotient, and else
-- the hook walk gives it, with the row at hand that it may end in.
use Rattle.std.specs.Prelude.{◌≡◌, ◌<◌}
use Rattle.std.proofs.Common.{sym, ◌∙◌, arith}
use borrow.Author.Tests.{leb-true, leb-false}
use Rattle.theory.specs.Basics.{Bool, false, ℕ, ◌≤?◌}
use Rattle.characters.specs.Private.SmallTables.{table_limit}
use Rattle.characters.proofs.Identities.{degree-place, quotient-asked, quotient-answers}
use Rattle.characters.proofs.Walks.{character-carried}
use Rattle.characters.proofs.evaluation.value.Goals as goal

pub look-requires : goal.look-requires
look-requires c =
    let few = leb-true _ table_limit (sym c.small.ensures ∙ c.if-small.true) in
    (record { below = c.requires.0; small = few }, c.requires.1)

pub returns-then-small : goal.returns-then-small
returns-then-small c = rw c.look.ensures (character-carried c.requires.1)

-- a class that is not small has a degree above 4
more : {small : Bool} {n : ℕ} → small ≡ (n ≤? table_limit) → small ≡ false → table_limit < n
more told test = leb-false _ table_limit (sym told ∙ test)

pub is_identity-requires : goal.is_identity-requires
is_identity-requires c = (omega (arith, more c.small.ensures c.if-small.false), c.requires.0)

pub overflow_sub-class : goal.overflow_sub-class
overflow_sub-class c = degree-place c.requires.0 c.requires.1 (more c.small.ensures c.if-small.false)

pub quotient-requires : goal.quotient-requires
quotient-requires c = quotient-asked c.requires.0 c.requires.1 (more c.small.ensures c.if-small.false)

pub returns-then-is_identity : goal.returns-then-is_identity
returns-then-is_identity c =
    rw c.quotient.ensures
    (quotient-answers c.requires.0 c.requires.1 (more c.small.ensures c.if-small.false)
    (sym c.is_identity.ensures ∙ c.if-is_identity.true))

pub hook_walk-requires-clause-row_of : goal.hook_walk-requires-clause-row_of
hook_walk-requires-clause-row_of c = (c.last_row-row.ensures, more c.small.ensures c.if-small.false)

pub returns : goal.returns
returns c = rw c.hook_walk.ensures (character-carried c.requires.1)

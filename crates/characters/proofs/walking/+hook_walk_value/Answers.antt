-- The hook walk strikes the longest cycle and adds what each hook counts; the value of a smaller word stands in the
-- row, at degree 4 or less, or is Frobenius's quotient, or another walk.
use Rattle.std.proofs.Common.{◌≡◌, ◌≤◌, ◌<◌, true, false, sym, ◌∙◌, subst, arith, leb-true, leb-false}
use Rattle.theory.specs.Basics.{List, get_or, ℕ, ℤ, pos, ◌≤?◌}
use Rattle.theory.specs.Partition.{degree}
use Rattle.theory.specs.ShapeWord.{shape_of}
use Rattle.theory.specs.ClassWord.{class_of}
use Rattle.theory.specs.Character.{◌on◌}
use Rattle.theory.specs.Listing.{rank as rank_of}
use Rattle.theory.specs.Bounds.Laws.{largest_limit}
use Rattle.pages.proofs.Signed.{carried}
use Rattle.characters.specs.Private.Evaluation.{Evaluable}
use Rattle.characters.specs.Private.SmallTables.{table_limit, row_length, RowOf, cycles_left}
use Rattle.characters.proofs.Identities.{degree-place, quotient-asked, quotient-answers}
use Rattle.characters.proofs.Walks.{first-bits, hooks-start, hooks-next, hooks-end}
use Rattle.characters.proofs.Walks.{hook-asked, row-kept, character-carried}
use Rattle.characters.proofs.SmallTables.{row-entry, row_within}
use Rattle.characters.proofs.SmallWords.{left-small}
use Rattle.characters.proofs.walking.+hook_walk_value.Goals as goal

-- where a value stands in the row at hand
record InRow (shape class rank : ℕ) (row : List ℤ) : Type 0 where
  few : degree (class_of class) ≤ table_limit
  within : rank < row_length
  number : carried (get_or row rank (pos 0)) ≡ shape_of shape on class_of class

pub hook_walk-overflow_shl-rest : goal.hook_walk-overflow_shl-rest
hook_walk-overflow_shl-rest t c = first-bits c.requires.class_bound.0 c.requires.class_bound.1 c.requires.row_of.1

pub hook_walk-loop-hook-init : goal.hook_walk-loop-hook-init
hook_walk-loop-hook-init t c =
    let b = c.requires.class_bound in
    hooks-start b.0 b.1 c.requires.row_of.1 _
    (λ long fits. c.into_iter-hook-iterator.ensures.into_iter_gives ∙ c.of-hook-items.ensures.hooks long fits)

pub hook_walk-value-number-requires : goal.hook_walk-value-number-requires
hook_walk-value-number-requires t c =
    let b = c.requires.class_bound in
    let next = hooks-next b.0 b.1 c.requires.row_of.1 c.in-Some.ensures.steps c.loop-hook.invariant in
    let asked = hook-asked b.0 b.1 c.requires.row_of.1 next.good in
    let row = row-kept b.0 b.1 c.requires.row_of.1 c.requires.row_of.0 in
    (omega (arith, asked.falls, c.decreases), ((asked.fits, asked.evaluable), row))

pub hook_walk-add_signed-sum-requires : goal.hook_walk-add_signed-sum-requires
hook_walk-add_signed-sum-requires t c =
    let b = c.requires.class_bound in
    let next = hooks-next b.0 b.1 c.requires.row_of.1 c.in-Some.ensures.steps c.loop-hook.invariant in
    rw c.value-number.ensures next.room

pub hook_walk-loop-hook-preserved : goal.hook_walk-loop-hook-preserved
hook_walk-loop-hook-preserved t c =
    let b = c.requires.class_bound in
    let next = hooks-next b.0 b.1 c.requires.row_of.1 c.in-Some.ensures.steps c.loop-hook.invariant in
    rw (c.add_signed-sum.ensures, c.value-number.ensures) next.walked

pub hook_walk-returns : goal.hook_walk-returns
hook_walk-returns t c =
    let b = c.requires.class_bound in
    hooks-end b.0 b.1 c.requires.row_of.1 c.in-None.ensures.steps.0 c.loop-hook.invariant

-- where the class is small, the row at hand is that of the class
small-row : (shape class rank : ℕ) (row : List ℤ) → Evaluable largest_limit shape (class_of class)
    → RowOf row (cycles_left (class_of class)) → true ≡ degree (class_of class) ≤? table_limit
    → rank ≡ rank_of (shape_of shape) → InRow shape class rank row
small-row shape class rank row e of-row small is =
    let few = leb-true (degree (class_of class)) table_limit (sym small) in
    let own = subst (RowOf row) (left-small (class_of class) few) of-row in
    rw is (record {
      few = few;
      within = row_within own e few;
      number = rw (row-entry own e) (character-carried e);
    })

pub value-shape_rank-rank-requires : goal.value-shape_rank-rank-requires
value-shape_rank-rank-requires t c =
    let e = c.requires.class_bound.1 in
    (e.good, omega (arith, e.degrees, leb-true (degree (class_of c.args.class)) table_limit (sym c.if-small.ensures)))

pub value-bounds-row-rank : goal.value-bounds-row-rank
value-bounds-row-rank t c =
    (small-row _ c.args.class _ _ c.requires.class_bound.1 c.requires.row_of c.if-small.ensures
    c.shape_rank-rank.ensures).within

pub value-offset_bounds-row-rank : goal.value-offset_bounds-row-rank
value-offset_bounds-row-rank t c =
    let at = small-row _ c.args.class _ _ c.requires.class_bound.1 c.requires.row_of c.if-small.ensures
    c.shape_rank-rank.ensures in
    record { fits = omega (arith, at.within) }

pub value-returns-then-small : goal.value-returns-then-small
value-returns-then-small t c =
    (small-row _ c.args.class _ _ c.requires.class_bound.1 c.requires.row_of c.if-small.ensures
    c.shape_rank-rank.ensures).number

more : (class : ℕ) → false ≡ degree (class_of class) ≤? table_limit → table_limit < degree (class_of class)
more class small = leb-false (degree (class_of class)) table_limit (sym small)

pub value-overflow_sub-class : goal.value-overflow_sub-class
value-overflow_sub-class t c =
    degree-place c.requires.class_bound.0 c.requires.class_bound.1 (more c.args.class c.if-small.ensures)

pub value-quotient-requires : goal.value-quotient-requires
value-quotient-requires t c =
    quotient-asked c.requires.class_bound.0 c.requires.class_bound.1 (more c.args.class c.if-small.ensures)

pub value-returns-then-is_identity : goal.value-returns-then-is_identity
value-returns-then-is_identity t c =
    rw c.quotient.ensures
    (quotient-answers c.requires.class_bound.0 c.requires.class_bound.1 (more c.args.class c.if-small.ensures)
    (sym c.if-is_identity.ensures))

-- The walk over the hooks, with the table's entries as the values.
use mir.Syntax.{w64}
use mir.Val.{to_z}
use Rattle.std.proofs.Common.{◌≡◌, ◌≤◌, ◌∷◌, sym, subst, arith}
use Rattle.theory.specs.Basics.{List, ℕ, ℤ}
use Rattle.theory.proofs.ShapeWord.Good.{good-shape}
use Rattle.theory.specs.Hooks.{Hook}
use Rattle.theory.specs.Limits.{degree_limit}
use Rattle.theory.specs.Refusals.Laws.{Within}
use Rattle.classcolumns.specs.Private.Places.{shape_places}
use Rattle.classcolumns.specs.Private.Columns.{entry, Table}
use Rattle.characters.proofs.HookSums.{Walk, Walked, NextHook, walk_start, walk-next, walk_end}
use Rattle.classcolumns.proofs.Signs.{counted}
use Rattle.classcolumns.proofs.lookup.Places.hook_sum.Goals as goal

walk : (table : List ℤ) (shape length : ℕ) → Table shape_places table → Within degree_limit shape → 1 ≤ length
    → Walk (entry shape_places table) shape length
walk table shape length form within long = record {
  long = long;
  within = record { good = within.good; small = omega (arith, within.small) };
  bounded = λ hook l. form.bounded hook.leaves
      (record { good = good-shape hook.leaves l.good; small = omega (arith, within.small, l.lower) });
}

pub loop-hook-init : goal.loop-hook-init
loop-hook-init c =
    let within = c.requires.within.0 in
    let long = c.requires.within.1 in
    rw (c.into_iter-hook-iterator.ensures.into_iter_gives, c.of-hook-items.ensures.hooks long (omega (arith, within.good.below)))
    (walk_start _ _ _ (walk c.args.table.now c.args.shape c.args.length c.requires.table within long))

-- the next hook, and those after it
step : (table : List ℤ) {shape length : ℕ} {hooks left : List (Hook ℕ)} {hook : Hook ℕ} {so_far : ℤ} → Table shape_places table
    → Within degree_limit shape → 1 ≤ length → hooks ≡ hook ∷ left
    → Walked (entry shape_places table) shape length hooks so_far
    → NextHook (entry shape_places table) shape length so_far hook left
step table {shape} {length} {hooks} {left} {hook} {so_far} form within long is w =
    walk-next (entry shape_places table) shape length (walk table shape length form within long) so_far hook left (rw is at w)

pub look-number-requires : goal.look-number-requires
look-number-requires c =
    (step c.args.table.now c.requires.table c.requires.within.0 c.requires.within.1 c.in-Some.ensures.steps
    c.loop-hook.invariant).good.good

pub overflow_mul-sum : goal.overflow_mul-sum
overflow_mul-sum c =
    let next = step c.args.table.now c.requires.table c.requires.within.0 c.requires.within.1 c.in-Some.ensures.steps
    c.loop-hook.invariant in
    (counted (to_z w64 c.loop-hook.sum-bits) _ c.in-Some.hook.minus c.look-number.ensures c.sign.ensures next.room).fits

pub overflow_add-sum : goal.overflow_add-sum
overflow_add-sum c =
    let next = step c.args.table.now c.requires.table c.requires.within.0 c.requires.within.1 c.in-Some.ensures.steps
    c.loop-hook.invariant in
    (counted (to_z w64 c.loop-hook.sum-bits) _ c.in-Some.hook.minus c.look-number.ensures c.sign.ensures next.room).sum-fits

pub loop-hook-preserved : goal.loop-hook-preserved
loop-hook-preserved c =
    let next = step c.args.table.now c.requires.table c.requires.within.0 c.requires.within.1 c.in-Some.ensures.steps
    c.loop-hook.invariant in
    let adds = (counted (to_z w64 c.loop-hook.sum-bits) _ c.in-Some.hook.minus c.look-number.ensures c.sign.ensures next.room).adds in
    subst (Walked (entry shape_places c.args.table.now) c.args.shape c.args.length c.next.new.self) (sym adds) next.walked

pub returns : goal.returns
returns c = walk_end _ _ _ _ (rw c.in-None.ensures.steps.0 at c.loop-hook.invariant)

-- Leading zeros give the next one, which is paired with the zeros before it.
use borrow.Author.Rules.{rules}
use Rattle.std.proofs.Common.{◌∙◌, ap, arith}
use Rattle.theory.specs.Basics.{ℕ}
use Rattle.theory.specs.Partition.{degree}
use Rattle.theory.specs.Digits.{digits}
use Rattle.theory.proofs.ShapeWord.Counts.{pairs_after, degree-after}
use Rattle.words.specs.Parts.{parts_left}
use Rattle.words.proofs.PartsLeft.{part-positive, parts-room}
use Rattle.words.proofs.shapes.pairs.Goals as goal

pub loop-part-init : goal.loop-part-init
loop-part-init c =
    let w : ℕ = c.args.word in
    let whole = ap parts_left c.into_iter-part-iterator.ensures.into_iter_gives ∙ c.of-part-items.ensures.parts (search rules) in (
      tt,
      tt,
      omega (arith, ap degree whole, parts-room w),
      omega (arith, ap degree whole, parts-room w),
      omega (arith, ap (pairs_after 0) whole, degree-after (digits 31 w)),
    )

pub overflow_sub-zeros : goal.overflow_sub-zeros
overflow_sub-zeros c = omega (arith, part-positive c.loop-part.part-iterator.rest c.in-Some.ensures.steps)

pub overflow_add-pairs : goal.overflow_add-pairs
overflow_add-pairs c =
    let e = c.in-Some.ensures.steps in
    omega (arith, ap degree e)

pub loop-part-preserved : goal.loop-part-preserved
loop-part-preserved c =
    let e = c.in-Some.ensures.steps in
    let some = part-positive c.loop-part.part-iterator.rest e in
    (tt, tt, omega (arith, ap degree e), omega (arith, ap degree e), omega (arith, ap (pairs_after c.loop-part.zeros) e))

pub returns : goal.returns
returns c = omega (arith, ap (pairs_after c.loop-part.zeros) c.in-None.ensures.steps.0)

-- Each part goes to its place, for which there is room.
use borrow.Author.Rules.{rules}
use Rattle.std.specs.Prelude.{◌+◌}
use Rattle.std.proofs.Common.{◌≡◌, ◌∙◌, ap, inl, arith}
use Rattle.theory.specs.Basics.{length}
use Rattle.theory.specs.Partition.{degree}
use Rattle.words.specs.Parts.{parts_left}
use Rattle.words.proofs.PartsLeft.{parts-room, few-parts}
use Rattle.words.proofs.Columns.{put-start, put_next, put_all}
use Rattle.words.proofs.classes.write_parts.Goals as goal

pub loop-i-init : goal.loop-i-init
loop-i-init c =
    let e = c.enumerate-i-items.ensures in
    let whole = ap parts_left e.source ∙ c.of.ensures.parts (search rules) in
    let few = few-parts c.args.word in
    rw (c.into_iter-i-iterator.ensures.into_iter_gives, e.count, whole)
    ((tt, tt, inl (omega (arith, few))), tt, omega (arith, few), put-start _ _ c.requires.1)

pub overflow_cast-column : goal.overflow_cast-column
overflow_cast-column c =
    omega (arith, ap degree c.in-Some.ensures.steps.0, parts-room c.loop-i.i-iterator.iter.rest)

pub loop-i-preserved : goal.loop-i-preserved
loop-i-preserved c =
    let e = c.in-Some.ensures.steps in
    let l = c.loop-i in
    let next = put_next _ _ (rw (← e.1) at l.invariant.3) e.0 in
    let few = ap length e.0 in
    let n : c.next.new.self.count ≡ c.in-Some.i + 1 = omega arith in
    rw n ((tt, tt, inl (omega (arith, few))), tt, omega (arith, few), next)

pub returns : goal.returns
returns c = put_all _ _ c.requires.1 c.loop-i.invariant.3 c.in-None.ensures.steps.0.0

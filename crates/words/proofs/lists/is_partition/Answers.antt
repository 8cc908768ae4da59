-- A part that is 0 or below the next is no partition's, and any other leaves the question to those behind it.
use Rattle.std.proofs.Common.{sym, ◌∙◌, ap, arith}
use Rattle.theory.specs.Partition.{is_partition}
use Rattle.words.proofs.PartLists.{none_left, zero_left, rise-left, fall-left}
use Rattle.words.proofs.lists.is_partition.Goals as goal

pub returns-then-part-eq0 : goal.returns-then-part-eq0
returns-then-part-eq0 c =
    sym (c.loop-i.invariant ∙ zero_left c.args.parts.now c.loop-i.i c.loop-i-test.true c.if-part-eq0.true)

pub returns-then-from-part_at : goal.returns-then-from-part_at
returns-then-from-part_at c =
    sym (c.loop-i.invariant ∙ rise-left c.args.parts.now c.loop-i.i c.loop-i-test.true (omega arith))

pub loop-i-preserved : goal.loop-i-preserved
loop-i-preserved c =
    c.loop-i.invariant
    ∙ fall-left c.args.parts.now c.loop-i.i c.loop-i-test.true c.if-part-eq0.false (omega arith)

pub returns : goal.returns
returns c = sym (c.loop-i.invariant ∙ ap is_partition (none_left c.args.parts.now c.loop-i.i c.loop-i-test.false))

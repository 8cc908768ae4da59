-- Each part is written by its one, and the word has room for it.
use Rattle.std.proofs.Common.{arith}
use Rattle.theory.proofs.Digits.Laws.{word_below}
use Rattle.theory.specs.ClassWord.{class_digits}
use Rattle.words.proofs.PartLists.{next-left, none_left}
use Rattle.words.proofs.ClassWriting.{part-written, all-written}
use Rattle.words.proofs.classes.bits.Goals as goal

pub overflow_add-bits : goal.overflow_add-bits
overflow_add-bits c =
    let step = part-written c.loop-part.invariant (next-left c.args.parts.now c.loop-part.part-index c.loop-part-test.true) in
    rw c.from-left.ensures (omega (arith, step.within, word_below 31 (class_digits c.args.parts.now)))

pub loop-part-preserved : goal.loop-part-preserved
loop-part-preserved c =
    let step = part-written c.loop-part.invariant (next-left c.args.parts.now c.loop-part.part-index c.loop-part-test.true) in
    rw c.from-left.ensures step.again

pub returns : goal.returns
returns c = all-written c.loop-part.invariant (none_left c.args.parts.now c.loop-part.part-index c.loop-part-test.false)

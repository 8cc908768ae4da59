-- `characters::small_tables::cycles_left`: each round strikes the longest cycle.
use Rattle.std.proofs.Common.{sym, ap, ◌∙◌, arith}
use Rattle.std.specs.Int.Count.{count_leading_zeros}
use borrow.Author.Tests.{leb-true, leb-false, not-true, not-false}
use Rattle.theory.specs.Partition.{degree}
use Rattle.theory.specs.ClassWord.{class_of}
use Rattle.characters.specs.Private.SmallTables.{table_limit}
use Rattle.characters.proofs.SmallWords.{Struck, struck-cycle, left-small}
use Rattle.characters.proofs.small_tables.cycles_left.Goals as goal

struck : (c : goal.In-loop-left) → let left = c.loop-left.left in Struck left (count_leading_zeros 32 left)
struck c =
    let l = c.loop-left in
    let more = sym c.small.ensures ∙ not-true c.small.result c.loop-left-test.true-raw in
    struck-cycle l.left l.invariant.0 (leb-false (degree (class_of l.left)) table_limit more)

pub overflow_shl-left : goal.overflow_shl-left
overflow_shl-left c = (struck c).bits

pub loop-left-smaller : goal.loop-left-smaller
loop-left-smaller c = omega (arith, ap degree (struck c).reads, (struck c).some)

pub loop-left-preserved : goal.loop-left-preserved
loop-left-preserved c = ((struck c).below, sym (struck c).left ∙ c.loop-left.invariant.1)

pub returns : goal.returns
returns c =
    let l = c.loop-left in
    let test = sym c.small.ensures ∙ not-false c.small.result c.loop-left-test.false-raw in
    let few = leb-true (degree (class_of l.left)) table_limit test in
    (record { below = l.invariant.0; small = few }, sym (left-small (class_of l.left) few) ∙ l.invariant.1)

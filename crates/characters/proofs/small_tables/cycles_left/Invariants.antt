-- What is left of the cycles of the present word is what is left of those of the first.
use Rattle.std.specs.Prelude.{◌≡◌, ◌^◌, ◌<◌}
use Rattle.theory.specs.Partition.{degree}
use Rattle.theory.specs.Digits.{width}
use Rattle.theory.specs.ClassWord.{class_of}
use Rattle.characters.specs.Private.SmallTables.{cycles_left}
use Rattle.characters.proofs.small_tables.cycles_left.Given as goal

abbrev pub invariant-loop-left : goal.invariant-loop-left
invariant-loop-left l = (l.left < 2 ^ width) × (cycles_left (class_of l.left) ≡ cycles_left (class_of l.class))

abbrev pub decreases-loop-left : goal.decreases-loop-left
decreases-loop-left l = degree (class_of l.left)

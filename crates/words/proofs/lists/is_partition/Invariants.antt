-- The list is a partition where what is left of it is one.
use Rattle.std.specs.Prelude.{◌≡◌}
use Rattle.theory.specs.Basics.{drop}
use Rattle.theory.specs.Partition.{is_partition}
use Rattle.words.proofs.lists.is_partition.Given as goal

abbrev pub invariant-loop-i : goal.invariant-loop-i
invariant-loop-i l = is_partition l.parts ≡ is_partition (drop l.i l.parts)

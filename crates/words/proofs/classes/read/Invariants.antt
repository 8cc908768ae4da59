-- The parts are a partition where the part read last and those left are one, and there are as many as were counted and
-- are left.
use Rattle.std.specs.Prelude.{◌≡◌, ◌∷◌, ◌+◌, ◌<◌}
use Rattle.theory.specs.Basics.{length}
use Rattle.theory.specs.Partition.{is_partition}
use Rattle.theory.specs.ClassWord.{class_of}
use Rattle.words.specs.Parts.{parts_left}
use Rattle.words.proofs.classes.read.Given as goal

abbrev pub invariant-loop-part : goal.invariant-loop-part
invariant-loop-part l =
    (goal.iterator-loop-part).can_next l.part-iterator
    × (goal.iterator-loop-part).is_finite l.part-iterator
    × (0 < l.last)
    × (l.count + length (parts_left l.part-iterator) ≡ length (class_of l.word))
    × (is_partition (l.last ∷ parts_left l.part-iterator) ≡ is_partition (class_of l.word))

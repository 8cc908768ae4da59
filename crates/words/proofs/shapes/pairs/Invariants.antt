-- The pairs so far, and those of the ones left with the zeros passed and with those left, are the degree.
use Rattle.std.specs.Prelude.{◌≡◌, ◌+◌, ◌*◌, ◌≤◌}
use Rattle.theory.specs.Partition.{degree}
use Rattle.theory.specs.ShapeWord.{shape_of}
use Rattle.theory.proofs.ShapeWord.Counts.{pairs_after}
use Rattle.words.specs.Parts.{parts_left}
use Rattle.words.proofs.shapes.pairs.Given as goal

abbrev pub invariant-loop-part : goal.invariant-loop-part
invariant-loop-part l =
    (goal.iterator-loop-part).can_next l.part-iterator
    × (goal.iterator-loop-part).is_finite l.part-iterator
    × (l.zeros + degree (parts_left l.part-iterator) ≤ 31)
    × (l.pairs + 31 * degree (parts_left l.part-iterator) ≤ 31 * 31)
    × (degree (shape_of l.word) ≡ l.pairs + pairs_after l.zeros (parts_left l.part-iterator))

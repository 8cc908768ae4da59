-- What has been multiplied, and what the parts left give behind the part read last, are the whole divisor.
use Rattle.std.specs.Prelude.{◌≡◌, ◌+◌, ◌*◌, ◌≤◌}
use Rattle.theory.specs.Partition.{degree}
use Rattle.theory.specs.ClassWord.{class_of}
use Rattle.theory.specs.ClassData.{class_divisor}
use Rattle.theory.specs.Bounds.Laws.{largest_limit}
use Rattle.theory.proofs.ClassData.Laws.{divisor_after}
use Rattle.words.specs.Parts.{parts_left}
use Rattle.words.proofs.ClassProducts.{Multiplying}
use Rattle.words.proofs.classes.divisor.Given as goal

abbrev pub invariant-loop-part : goal.invariant-loop-part
invariant-loop-part l =
    (goal.iterator-loop-part).can_next l.part-iterator
    × (goal.iterator-loop-part).is_finite l.part-iterator
    × Multiplying (parts_left l.part-iterator) l.product
    × (l.last * l.times + degree (parts_left l.part-iterator) ≤ largest_limit)
    × (l.product * divisor_after l.last l.times (parts_left l.part-iterator) ≡ class_divisor (class_of l.word))

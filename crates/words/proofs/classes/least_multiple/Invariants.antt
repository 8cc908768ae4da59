-- What the parts left make of what has been reached is what all of them make of 1.
use Rattle.std.specs.Prelude.{◌≡◌, ◌%◌, ◌<◌}
use Rattle.theory.specs.ClassWord.{class_of}
use Rattle.theory.specs.ClassData.Periods.{period_from}
use Rattle.words.specs.Parts.{parts_left}
use Rattle.words.proofs.ClassProducts.{Multiplying}
use Rattle.words.proofs.classes.least_multiple.Given as goal

abbrev pub invariant-loop-part : goal.invariant-loop-part
invariant-loop-part l =
    (goal.iterator-loop-part).can_next l.part-iterator
    × (goal.iterator-loop-part).is_finite l.part-iterator
    × Multiplying (parts_left l.part-iterator) l.multiple
    × (0 < l.last → l.multiple % l.last ≡ 0)
    × (period_from l.multiple (parts_left l.part-iterator) ≡ period_from 1 (class_of l.word))

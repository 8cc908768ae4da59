-- What is left of the ones, and the rows that are not read yet behind the one read last, make the whole word.
use Rattle.theory.specs.OldForm.{new_word}
use Rattle.words.specs.Parts.{parts_left}
use Rattle.oldlists.proofs.Taking.{Taking}
use Rattle.oldlists.proofs.forms.new_word.Given as goal

abbrev pub invariant-loop-part : goal.invariant-loop-part
invariant-loop-part l =
    (goal.iterator-loop-part).can_next l.part-iterator
    × (goal.iterator-loop-part).is_finite l.part-iterator
    × Taking (new_word l.word) l.last l.left l.bits (parts_left l.part-iterator)

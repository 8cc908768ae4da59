-- The rows that are not read yet are those that are not written yet.
use Rattle.theory.proofs.ShapeWord.Complement.{rows_after}
use Rattle.theory.specs.OldForm.{old_word}
use Rattle.words.specs.Parts.{parts_left}
use Rattle.words.proofs.ClassWriting.{Writing}
use Rattle.oldlists.proofs.forms.old_word.Given as goal

abbrev pub invariant-loop-part : goal.invariant-loop-part
invariant-loop-part l =
    (goal.iterator-loop-part).can_next l.part-iterator
    × (goal.iterator-loop-part).is_finite l.part-iterator
    × Writing (old_word l.word) l.left l.bits (rows_after l.length (parts_left l.part-iterator))

-- What is left of the class of a line that is named with a cycle.
--   class_left_of ..   refused by a check from 6 to 9, or the class word of the named line without the named cycle
use Rattle.theory.specs.Basics.{List, ℕ}
use Rattle.theory.specs.Partition.{without}
use Rattle.theory.specs.ClassWord.{class_word, class_of}
use Rattle.words.specs.Answers.{WordAnswer, worded}
use Rattle.pages.specs.declared.Slip.{Slip}
use Rattle.pages.specs.Page.{line_at}
use Rattle.pages.specs.Mode.{waiting}
use Rattle.sessions.specs.Step.{named_checks}

unfoldable pub class_left_of : ℕ → Slip → List ℕ → ℕ → ℕ → WordAnswer
class_left_of limit slip page line cycle =
    worded (named_checks limit slip page line cycle)
    (class_word (without cycle (class_of (line_at (waiting slip page) line).class)))

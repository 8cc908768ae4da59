-- What the calls on lists of shapes promise (document 02, P5). The limit on degrees comes first.
--   shapes_from_old old new   the list `old`, of words of the old form, moved to the new form onto the lent list `new`
--   shapes_to_old new old     and back
use Rattle.theory.specs.Basics.{List, ℕ}
use Rattle.theory.specs.Refusals.{good_shape_checks, class_checks}
use Rattle.theory.specs.OldForm.{new_word, old_word}
use Rattle.oldlists.specs.Lists.{ListAnswer, moved}

module _ (limit : ℕ) where
  unfoldable pub shapes_from_old : List ℕ → List ℕ → ListAnswer × List ℕ
  shapes_from_old old new = moved (class_checks limit) new_word old new

  unfoldable pub shapes_to_old : List ℕ → List ℕ → ListAnswer × List ℕ
  shapes_to_old new old = moved (good_shape_checks limit) old_word new old

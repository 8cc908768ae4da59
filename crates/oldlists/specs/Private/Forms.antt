-- The two forms of a shape's word.
--   form_checks limit form w   the checks of a word of that form
--   other_form form w          the word in the other form
use Rattle.theory.specs.Basics.{List, ℕ}
use Rattle.theory.specs.Refusals.{Check, good_shape_checks, class_checks}
use Rattle.theory.specs.OldForm.{new_word, old_word}
use Rattle.oldlists.specs.declared.forms.Form.{Form}
use Rattle.oldlists.specs.declared.forms.Form.TheVariants.{Old, New}

abbrev pub form_checks : ℕ → Form → ℕ → List Check
form_checks limit Old w = class_checks limit w
form_checks limit New w = good_shape_checks limit w

abbrev pub other_form : Form → ℕ → ℕ
other_form Old w = new_word w
other_form New w = old_word w

-- Shapes in the old form (document 02, P5: "our archive packs shapes by Comét's first method, as classes are"). The new
-- form is his second method.
--   new_word w   the new word of the shape whose old word is w
--   old_word w   the old word of the shape whose new word is w
use Rattle.theory.specs.Basics.{ℕ}
use Rattle.theory.specs.ShapeWord.{shape_word, shape_of}
use Rattle.theory.specs.ClassWord.{class_word, class_of}
pub mod Laws

abbrev pub new_word : ℕ → ℕ
new_word w = shape_word (class_of w)

abbrev pub old_word : ℕ → ℕ
old_word w = class_word (shape_of w)

-- What the calls on one partition promise (document 01, "Words", "The character", second paragraph, "Order"; document
-- 02, P2 and P6).
-- Each has the name of what it gives; `_into` writes to the front of a lent column. The limit on degrees comes first.
--   shape_reading w           what the one reader of shape words finds: the good word, the ones dropped, the degree
--   PeriodOfClass w answer   the answer gives the period of the class of the word w, or refuses
use Rattle.theory.specs.Basics.{ℕ, pos}
use Rattle.theory.specs.Partition.{Parts, degree}
use Rattle.theory.specs.ShapeWord.{shape_word, shape_of, conjugate_word, good_word, dropped}
use Rattle.theory.specs.ClassWord.{class_word, class_of}
use Rattle.theory.specs.ClassData.{class_sign, class_size, Period}
use Rattle.theory.specs.Refusals.{first_of, refused_or, shape_checks, class_checks, shape_list_checks, class_list_checks, no-14}
use Rattle.words.specs.Answers.{worded, numbered, NumberedBy, written, WordAnswer, NumberAnswer, CountAnswer}
use Rattle.words.specs.Answers.{good_answer, reading, GoodAnswer, ShapeReading}
pub mod Laws

module _ (limit : ℕ) where
  -- ---- shapes
  unfoldable pub shape_word_from : Parts → WordAnswer
  shape_word_from ps = worded (shape_list_checks limit ps) (shape_word ps)

  unfoldable pub shape_reading : ℕ → ShapeReading
  shape_reading w =
      refused_or (first_of (shape_checks limit w)) (λ k. reading k 0 0 0)
      (reading 0 (good_word w) (dropped w) (degree (shape_of w)))

  unfoldable pub good_shape_word : ℕ → GoodAnswer
  good_shape_word w =
      refused_or (first_of (shape_checks limit w)) (λ k. good_answer k 0 0) (good_answer 0 (good_word w) (dropped w))

  unfoldable pub shape_parts_into : ℕ → Parts → CountAnswer × Parts
  shape_parts_into w column = written (shape_checks limit w) no-14 (shape_of w) column

  unfoldable pub shape_degree : ℕ → NumberAnswer
  shape_degree w = numbered (shape_checks limit w) (pos (degree (shape_of w)))

  unfoldable pub conjugate_shape : ℕ → WordAnswer
  conjugate_shape w = worded (shape_checks limit w) (conjugate_word w)

  -- ---- classes
  unfoldable pub class_word_from : Parts → WordAnswer
  class_word_from ps = worded (class_list_checks limit ps) (class_word ps)

  unfoldable pub class_parts_into : ℕ → Parts → CountAnswer × Parts
  class_parts_into w column = written (class_checks limit w) no-14 (class_of w) column

  unfoldable pub class_degree : ℕ → NumberAnswer
  class_degree w = numbered (class_checks limit w) (pos (degree (class_of w)))

  unfoldable pub sign_of_class : ℕ → NumberAnswer
  sign_of_class w = numbered (class_checks limit w) (class_sign (class_of w))

  unfoldable pub size_of_class : ℕ → NumberAnswer
  size_of_class w = numbered (class_checks limit w) (pos (class_size (class_of w)))

  unfoldable pub PeriodOfClass : ℕ → NumberAnswer → Type 0
  PeriodOfClass w answer = NumberedBy (class_checks limit w) (Period (class_of w)) answer

-- What follows from the promises of the calls on one partition. To every word there is one answer that `PeriodOfClass`
-- promises, and no second; it refuses as the checks do (document 02, P2; document 01, "What the contracts have to
-- say"). Two words of one shape get one answer, apart from the count of ones dropped; of a word that is not refused the
-- count is 0 exactly where the word is good (document 02, P6).
--   apart_from_count a   the answer a without its count; read_apart r, the reading r
use Rattle.std.specs.Prelude.{◌≡◌}
use Rattle.std.proofs.Math.Path.{refl}
use Rattle.std.proofs.Common.{sym, ◌∙◌, ap}
use Rattle.theory.specs.Basics.{true, ℕ, pos}
use Rattle.theory.specs.Partition.{Parts, degree}
use Rattle.theory.specs.ShapeWord.{shape_of, good_shape, good_word, dropped}
use Rattle.theory.specs.ShapeWord.InFront.{SameShape}
use Rattle.theory.proofs.ShapeWord.InFront.{one-good-word, good-kept, kept-good, none_dropped, undropped-good}
use Rattle.theory.proofs.ShapeWord.Conjugate.{one-conjugate}
use Rattle.theory.specs.ClassWord.{class_of}
use Rattle.theory.specs.ClassData.Periods.{period_from}
use Rattle.theory.proofs.ClassData.Periods.{period-computed, one-period}
use Rattle.theory.specs.Refusals.{first_of, refused_or, shape_checks, good_shape_checks, class_checks}
use Rattle.theory.proofs.Refusals.Laws.{made_of, answer-given, shape-clear, good-checked, within-class}
use Rattle.theory.proofs.Refusals.Laws.{shape-alike}
use Rattle.words.specs.Answers.{word_answer, good_answer, worded, numbered, NumberAnswer, WordAnswer}
use Rattle.words.specs.Answers.{reading, GoodAnswer, ShapeReading}
use Rattle.words.specs.Answers.Laws.{number-refusal, one_number}
use Rattle.words.specs.Calls.{shape_reading, good_shape_word, shape_parts_into, shape_degree, conjugate_shape}
use Rattle.words.specs.Calls.{PeriodOfClass}

module _ (limit w : ℕ) where
  pub period-told : PeriodOfClass limit w (numbered (class_checks limit w) (pos (period_from 1 (class_of w))))
  unfolding PeriodOfClass
  period-told =
      record {
        number = period_from 1 (class_of w);
        holds = λ none. period-computed (class_of w) (within-class limit w none).good.partition;
        answers = refl;
      }

  pub period-refusal : (r : NumberAnswer) → PeriodOfClass limit w r → r.refused ≡ first_of (class_checks limit w)
  unfolding PeriodOfClass
  period-refusal r p = number-refusal p

  pub one-period-told : {r s : NumberAnswer} → PeriodOfClass limit w r → PeriodOfClass limit w s → r ≡ s
  unfolding PeriodOfClass
  one-period-told p q = one_number (λ m n. one-period) p q

-- ---- words of one shape
abbrev pub apart_from_count : GoodAnswer → WordAnswer
apart_from_count a = word_answer a.refused a.word

abbrev pub read_apart : ShapeReading → ShapeReading
read_apart r = reading r.refused r.word 0 r.degree

module _ (limit : ℕ) {v w : ℕ} (s : SameShape v w) where
  pub reading-alike : read_apart (shape_reading limit v) ≡ read_apart (shape_reading limit w)
  unfolding shape_reading
  reading-alike = apart v ∙ rw (shape-alike s limit, one-good-word v w s.shapes, s.shapes) (sym (apart w))
    where
      apart : (u : ℕ) → read_apart (shape_reading limit u)
          ≡ refused_or (first_of (shape_checks limit u)) (λ k. reading k 0 0 0)
          (reading 0 (good_word u) 0 (degree (shape_of u)))
      apart u = made_of read_apart _ _ (first_of (shape_checks limit u))

  pub good-alike : apart_from_count (good_shape_word limit v) ≡ apart_from_count (good_shape_word limit w)
  unfolding good_shape_word
  good-alike = apart v ∙ rw (shape-alike s limit, one-good-word v w s.shapes) (sym (apart w))
    where
      apart : (u : ℕ) → apart_from_count (good_shape_word limit u) ≡ worded (shape_checks limit u) (good_word u)
      apart u =
          made_of apart_from_count (λ k. good_answer k 0 0) (good_answer 0 (good_word u) (dropped u))
          (first_of (shape_checks limit u))

  pub parts-alike : (column : Parts) → shape_parts_into limit v column ≡ shape_parts_into limit w column
  unfolding shape_parts_into
  parts-alike column = rw (s.first-clear, s.second-clear, s.shapes)

  pub degree-alike : shape_degree limit v ≡ shape_degree limit w
  unfolding shape_degree
  degree-alike = rw (s.first-clear, s.second-clear, s.shapes)

  pub conjugate-alike : conjugate_shape limit v ≡ conjugate_shape limit w
  unfolding conjugate_shape
  conjugate-alike = rw (s.first-clear, s.second-clear, s.shapes, one-conjugate v w s.shapes)

-- from a good word nothing is dropped: it is read as before P6, by the old checks; and from every other word that is not
-- refused something is dropped, so that another word is left
module _ (limit w : ℕ) where
  module _ (good : good_shape w ≡ true) where
    pub good-read : shape_reading limit w
        ≡ refused_or (first_of (good_shape_checks limit w)) (λ k. reading k 0 0 0) (reading 0 w 0 (degree (shape_of w)))
    unfolding shape_reading
    good-read = rw (good-checked limit w good, good-kept w good, none_dropped w good)

    pub good-idle : good_shape_word limit w
        ≡ refused_or (first_of (good_shape_checks limit w)) (λ k. good_answer k 0 0) (good_answer 0 w 0)
    unfolding good_shape_word
    good-idle = rw (good-checked limit w good, good-kept w good, none_dropped w good)

  module _ (accepted : (good_shape_word limit w).refused ≡ 0) where
    given : (first_of (shape_checks limit w) ≡ 0) × (good_shape_word limit w ≡ good_answer 0 (good_word w) (dropped w))
    unfolding good_shape_word
    given =
        answer-given (λ (x : GoodAnswer). x.refused) (λ k. good_answer k 0 0) (good_answer 0 (good_word w) (dropped w))
        (λ k. refl) refl (first_of (shape_checks limit w)) (good_shape_word limit w) refl accepted

    pub idle-good : (good_shape_word limit w).dropped ≡ 0 → good_shape w ≡ true
    idle-good none =
        undropped-good w (shape-clear limit w given.0) (sym (ap (λ (x : GoodAnswer). x.dropped) given.1) ∙ none)

    pub unchanged-good : (good_shape_word limit w).word ≡ w → good_shape w ≡ true
    unchanged-good same = kept-good w (sym (ap (λ (x : GoodAnswer). x.word) given.1) ∙ same)

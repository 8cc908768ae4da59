-- What a reading of a shape word tells, and how the reader makes it.
--   ShapeRead limit w r   no check refuses the shape word w, and the reading r has its good word and its degree
use mathlib.Core.Path.{◌≡◌, refl, sym, ◌∙◌, ap}
use Rattle.theory.specs.Basics.{ℕ}
use Rattle.theory.specs.Partition.{degree}
use Rattle.theory.specs.ShapeWord.{shape_of, good_word, dropped}
use Rattle.theory.proofs.ShapeWord.InFront.{dropped-shape}
use Rattle.theory.specs.Refusals.{first_of, shape_checks}
use Rattle.theory.specs.Refusals.Laws.{Within}
use Rattle.theory.proofs.Refusals.Laws.{or-refused, made_of, answer-number, answer-given, within}
use Rattle.words.specs.Answers.{reading, good_answer, GoodAnswer, ShapeReading}
use Rattle.words.specs.Calls.{shape_reading, good_shape_word}

pub record ShapeRead (limit w : ℕ) (r : ShapeReading) : Type 0 where
  pub none : first_of (shape_checks limit w) ≡ 0
  pub within : Within limit (good_word w)
  pub word : r.word ≡ good_word w
  pub degree : r.degree ≡ degree (shape_of w)

-- the word that is handed on is good, and has the shape of the one that was read
pub read-within : {limit w : ℕ} {r : ShapeReading} → ShapeRead limit w r → Within limit r.word
read-within s = rw s.word s.within

pub read-shape : {limit w : ℕ} {r : ShapeReading} → ShapeRead limit w r → shape_of r.word ≡ shape_of w
read-shape {w = w} s = ap shape_of s.word ∙ dropped-shape w

module _ (limit w : ℕ) where
  abbrev refused : ℕ → ShapeReading
  refused k = reading k 0 0 0

  abbrev given : ShapeReading
  given = reading 0 (good_word w) (dropped w) (degree (shape_of w))

  -- ---- how it is made
  pub reading-refused : (k : ℕ) → k ≡ first_of (shape_checks limit w) → (k ≡ 0 → ⊥) → refused k ≡ shape_reading limit w
  unfolding shape_reading
  reading-refused k e n = rw (← e) (sym (or-refused refused given k n))

  pub reading-given : (v n d : ℕ) → first_of (shape_checks limit w) ≡ 0 → v ≡ good_word w → n ≡ dropped w
      → d ≡ degree (shape_of w) → reading 0 v n d ≡ shape_reading limit w
  unfolding shape_reading
  reading-given v n d none good ones same = rw (none, good, ones, same)

  -- ---- what it tells
  module _ (r : ShapeReading) (e : r ≡ shape_reading limit w) where
    pub reading-number : r.refused ≡ first_of (shape_checks limit w)
    unfolding shape_reading
    reading-number =
        answer-number (λ (x : ShapeReading). x.refused) refused given (λ k. refl) refl (first_of (shape_checks limit w))
        r e

    pub shape-read : r.refused ≡ 0 → ShapeRead limit w r
    unfolding shape_reading
    shape-read z =
        let (none, is) =
        answer-given (λ (x : ShapeReading). x.refused) refused given (λ k. refl) refl
        (first_of (shape_checks limit w)) r e z in
        record {
          none = none;
          within = within limit w none;
          word = ap (λ (x : ShapeReading). x.word) is;
          degree = ap (λ (x : ShapeReading). x.degree) is;
        }

    -- its good word and the ones dropped, refused or given
    pub reading-good : good_answer r.refused r.word r.dropped ≡ good_shape_word limit w
    unfolding shape_reading good_shape_word
    reading-good =
        let cut : ShapeReading → GoodAnswer = λ x. good_answer x.refused x.word x.dropped in
        ap cut e ∙ made_of cut refused given (first_of (shape_checks limit w))

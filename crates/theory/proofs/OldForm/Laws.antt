-- One shape in two forms: each move keeps the partition and is undone by the other (document 02, P5). That is what
-- document 01 has of class words and of shape words, put together, for any limit below the 31 digits of a word.
use Rattle.std.specs.Prelude.{◌≡◌, ◌<◌}
use Rattle.std.proofs.Common.{◌∙◌, ap, arith}
use Rattle.theory.specs.Basics.{ℕ}
use Rattle.theory.specs.Partition.{degree}
use Rattle.theory.specs.Digits.{width}
use Rattle.theory.specs.ShapeWord.{shape_word, shape_of}
use Rattle.theory.proofs.ShapeWord.Good.{good-shape, shape-good}
use Rattle.theory.proofs.ShapeWord.Words.{TheWord, small-has-room, the_word, the_shape}
use Rattle.theory.specs.ClassWord.{class_word, class_of}
use Rattle.theory.specs.ClassWord.Laws.{GoodClass}
use Rattle.theory.proofs.ClassWord.Laws.{one-to-one}
use Rattle.theory.specs.Refusals.{good_shape_checks, class_checks}
use Rattle.theory.proofs.Refusals.Laws.{good-word-within, good-shape-passes, within-class, class-passes}
use Rattle.theory.specs.OldForm.{new_word, old_word}
use Rattle.theory.specs.OldForm.Laws.{Passes, OneWord}

module _ (limit : ℕ) (small : limit < width) where
  new_word_lem : (w : ℕ) → Passes (class_checks limit) w → TheWord (class_of w) (new_word w)
  new_word_lem w e =
      let p = within-class limit w e in
      the_word (class_of w) (small-has-room (class_of w) p.good.partition (omega (arith, p.small)))

  pub from_old : OneWord (class_checks limit, new_word) (good_shape_checks limit, old_word) class_of shape_of
  from_old = record {
    passes = λ w e.
        let v = new_word_lem w e in
        let degrees = ap degree v.its_shape in
        good-shape-passes (record {
          good = good-shape (new_word w) v.good;
          small = omega (arith, (within-class limit w e).small);
        });
    keeps = λ w e. (new_word_lem w e).its_shape;
    back = λ w e. ap class_word (new_word_lem w e).its_shape ∙ (one-to-one.to-class (within-class limit w e).good).1;
  }

  old-word : (w : ℕ) → Passes (good_shape_checks limit) w → GoodClass (old_word w) × (class_of (old_word w) ≡ shape_of w)
  old-word w e =
      let p = good-word-within limit w e in
      let room = (the_shape w (shape-good p.good)).has_room in
      one-to-one.to_word (record { partition = room.partition; room = omega (arith, p.small) })

  pub to-old : OneWord (good_shape_checks limit, old_word) (class_checks limit, new_word) shape_of class_of
  to-old = record {
    passes = λ w e.
        let (good, keeps) = old-word w e in
        let degrees = ap degree keeps in
        class-passes (record { good = good; small = omega (arith, (good-word-within limit w e).small) });
    keeps = λ w e. (old-word w e).1;
    back = λ w e.
        ap shape_word (old-word w e).1 ∙ (the_shape w (shape-good (good-word-within limit w e).good)).its-word;
  }

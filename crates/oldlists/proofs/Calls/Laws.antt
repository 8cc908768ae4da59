-- Lists of shapes move between two forms: each move keeps the partition, entry by entry, and there and back is the list
-- again (document 02, P5), for any limit below the 31 digits of a word.
use Rattle.std.specs.Prelude.{◌≡◌, ◌<◌}
use Rattle.theory.specs.Basics.{List, map, length, ℕ}
use Rattle.theory.specs.Digits.{width}
use Rattle.theory.specs.ShapeWord.{shape_of}
use Rattle.theory.specs.ClassWord.{class_of}
use Rattle.theory.proofs.OldForm.Laws.{from_old, to-old}
use Rattle.words.specs.Answers.{Outcome}
use Rattle.oldlists.specs.Lists.{ListAnswer, list_answer}
use Rattle.oldlists.proofs.Lists.Laws.{list-kept, list_back}
use Rattle.oldlists.specs.Calls.{shapes_from_old, shapes_to_old}

module _ (limit : ℕ) (small : limit < width) where
  module _ (given lent : List ℕ) {after : List ℕ} {r : ListAnswer} where
    pub from-old-keeps : Outcome (shapes_from_old limit given lent) r after → r.refused ≡ 0
        → map shape_of after ≡ map class_of given
    unfolding shapes_from_old
    from-old-keeps o none = list-kept (from_old limit small) given lent o none

    pub to-old-keeps : Outcome (shapes_to_old limit given lent) r after → r.refused ≡ 0
        → map class_of after ≡ map shape_of given
    unfolding shapes_to_old
    to-old-keeps o none = list-kept (to-old limit small) given lent o none

    -- the way back is accepted too, whatever stood in the list that is lent for it
    pub from-old-and-back : Outcome (shapes_from_old limit given lent) r after → r.refused ≡ 0
        → (again : List ℕ) → length after ≡ length again → shapes_to_old limit after again ≡ (list_answer 0 0, given)
    unfolding shapes_from_old shapes_to_old
    from-old-and-back o none = list_back (from_old limit small) given lent o none

    pub to-old-and-back : Outcome (shapes_to_old limit given lent) r after → r.refused ≡ 0
        → (again : List ℕ) → length after ≡ length again → shapes_from_old limit after again ≡ (list_answer 0 0, given)
    unfolding shapes_from_old shapes_to_old
    to-old-and-back o none = list_back (to-old limit small) given lent o none

-- Shapes as words, there and back: at any number of digits, and at the width (document 01, "Shape word").
--   HasRoom n ps     ps is a partition whose rows and columns have room in n digits
--   TheShape w rs    rs has room, its word is w, and no other shape that has room has this word
--   TheWord rs w     w is good, its shape is rs, and no other good word has this shape
use Rattle.std.specs.Prelude.{◌≡◌, refl, ◌≤◌, ◌<◌, ◌∷◌, ◌+◌, ◌^◌}
use Rattle.std.proofs.Common.{sym, ◌∙◌, ap, arith, pow_pos, eq-eqb, eqb-true}
use Rattle.theory.specs.Basics.{true, false, [], ℕ, suc, ◌=?◌, length}
use Rattle.theory.proofs.Basics.Keep.{same_test}
use Rattle.theory.specs.Partition.{Parts, first, is_partition, degree}
use Rattle.theory.proofs.Partition.Laws.{room, no-degree}
use Rattle.theory.specs.Digits.{digits, word, width}
use Rattle.theory.proofs.Digits.Laws.{digits-word, digits-zero, word-digits, word_below, length_digits}
use Rattle.theory.proofs.Digits.LastOne.{last, length_last, word-last}
use Rattle.theory.specs.ShapeWord.{shape_digits, rows, shape_word, shape_of, shape_width, good_shape}
use Rattle.theory.proofs.ShapeWord.Good.{good-shape, shape-good}
use Rattle.theory.proofs.ShapeWord.Laws.{rows-partition, first_rows, length-rows, rows-filled, rows-shape}
use Rattle.theory.proofs.ShapeWord.Laws.{length-shape, shape-rows}

pub record HasRoom (n : ℕ) (ps : Parts) : Type 0 where
  pub partition : is_partition ps ≡ true
  pub room : length ps + first ps ≤ n

-- ---- at any number of digits
pub rows-word : (n : ℕ) (ps : Parts) → HasRoom n ps → rows (digits n (word n (shape_digits ps))) ≡ ps
rows-word n ps f =
    let e = f.partition in
    let l = length_last (last (shape_digits ps)) in
    ap rows (digits-word n (shape_digits ps))
    ∙ rows-filled n (shape_digits ps) (omega (arith, length-shape ps e))
    ∙ rows-shape ps e

-- a row gives a zero first
pub word-shape : (n : ℕ) (ps : Parts) → word (suc n) (shape_digits ps) < 2 ^ n
unfolding word
word-shape n [] = pow_pos n
word-shape n (p ∷ ps) = word_below n _

pub word_rows : (n x : ℕ) → x < 2 ^ n → word (suc n) (shape_digits (rows (digits (suc n) x))) ≡ x
unfolding word
word_rows n x h =
    rw (digits-zero n x h, shape-rows (digits n x), word-last (suc n) (false ∷ digits n x)) (word-digits n x h)

pub rows-have-room : (n x : ℕ) → HasRoom n (rows (digits n x))
rows-have-room n x =
    let ds = digits n x in
    record {
      partition = rows-partition ds;
      room = omega (arith, length-rows (last ds), first_rows ds, length_last (last ds), length_digits n x);
    }

-- ---- at the width
-- a degree below the width gives room
pub small-has-room : (ps : Parts) → is_partition ps ≡ true → degree ps < width → HasRoom width ps
small-has-room ps e l = record { partition = e; room = omega (arith, room ps e) }

pub rows-good : (ps : Parts) → good_shape (shape_word ps) ≡ true
rows-good ps = shape-good (record { below = word-shape shape_width ps })

pub shape-back : (w : ℕ) → good_shape w ≡ true → shape_word (shape_of w) ≡ w
shape-back w g = word_rows shape_width w (good-shape w g).below

pub word_back : (ps : Parts) → HasRoom width ps → shape_of (shape_word ps) ≡ ps
word_back ps f = rows-word width ps f

-- Good shape words are exactly the words of the partitions that fit, one to one.
pub record TheShape (w : ℕ) (rs : Parts) : Type 0 where
  pub has_room : HasRoom width rs
  pub its-word : shape_word rs ≡ w
  pub only : (ps : Parts) → HasRoom width ps → shape_word ps ≡ w → ps ≡ rs

pub the_shape : (w : ℕ) → good_shape w ≡ true → TheShape w (shape_of w)
the_shape w g = record {
  has_room = rows-have-room width w;
  its-word = shape-back w g;
  only = λ ps f e. sym (word_back ps f) ∙ ap shape_of e;
}

pub record TheWord (rs : Parts) (w : ℕ) : Type 0 where
  pub good : good_shape w ≡ true
  pub its_shape : shape_of w ≡ rs
  pub only : (v : ℕ) → good_shape v ≡ true → shape_of v ≡ rs → v ≡ w

pub the_word : (rs : Parts) → HasRoom width rs → TheWord rs (shape_word rs)
the_word rs f = record {
  good = rows-good rs;
  its_shape = word_back rs f;
  only = λ v g e. sym (shape-back v g) ∙ ap shape_word e;
}

-- ---- the empty shape is 0, and no other good word has its degree
shape-of-zero : shape_of 0 ≡ []
unfolding digits
shape-of-zero = refl

-- a good word is 0 exactly when its degree is
pub empty-word : (w : ℕ) → good_shape w ≡ true → (w =? 0) ≡ (degree (shape_of w) =? 0)
unfolding word
empty-word w good = same_test (w =? 0) (degree (shape_of w) =? 0)
    (λ e. eq-eqb (degree (shape_of w)) 0 (ap (λ v. degree (shape_of v)) (eqb-true w 0 e) ∙ ap degree shape-of-zero))
    (λ e. eq-eqb w 0
    (sym (shape-back w good)
    ∙ ap shape_word (no-degree (shape_of w) (rows-partition (digits width w)) (eqb-true (degree (shape_of w)) 0 e))))

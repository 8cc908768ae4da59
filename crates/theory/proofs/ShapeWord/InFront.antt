-- Words with ones in front (document 02, P6: "give the good word of the same shape and say how many ones it dropped";
-- "Demand 2's one word is the good one").
use Rattle.std.specs.Prelude.{◌≡◌, refl, ◌≤◌, ◌<◌, ◌∷◌, ◌++◌, ◌+◌, ◌*◌, ◌^◌}
use Rattle.std.proofs.Common.{sym, ◌∙◌, ap, pow-suc, arith, pow_pos, ltb-true, lt-ltb}
use Rattle.std.proofs.Math.Nat.{eq_of_mul-eq-mul_right}
use Rattle.theory.specs.Basics.{true, false, [], ℕ, zero, suc, length, replicate}
use Rattle.theory.specs.Partition.{degree}
use Rattle.theory.specs.Digits.{Digits, digits, word, width}
use Rattle.theory.proofs.Digits.Laws.{digits-word, digits-zero, word-digits, word_below, length_digits}
use Rattle.theory.proofs.Digits.LastOne.{last, length_last}
use Rattle.theory.specs.ShapeWord.{rows, pairs, shape_word, shape_of, shape_width, good_shape, clear_sign, shifted}
use Rattle.theory.specs.ShapeWord.{leading_ones, good_word, dropped}
use Rattle.theory.proofs.ShapeWord.Good.{good-shape, shape-good}
use Rattle.theory.proofs.ShapeWord.Laws.{rows-filled, degree-pairs}
use Rattle.theory.proofs.ShapeWord.Words.{TheWord, shape-back}
use Rattle.theory.specs.ShapeWord.InFront.{SameShape}

-- ---- leading ones shifted out
-- the ones that are shifted out stood in front
pub front-ones : (ds : Digits) → replicate (leading_ones ds) true ++ shifted ds ≡ ds
front-ones [] = refl
front-ones (true ∷ ds) = ap {B = Digits} (λ l. true ∷ l) (front-ones ds)
front-ones (false ∷ ds) = refl

-- a zero is then in front, so the word is good
pub word-shifted : (n : ℕ) (ds : Digits) → word (suc n) (shifted ds) < 2 ^ n
unfolding word
word-shifted n [] = pow_pos n
word-shifted n (true ∷ ds) = word-shifted n ds
word-shifted n (false ∷ ds) = word_below n ds

length-shifted : (ds : Digits) → length (shifted ds) ≤ length ds
length-shifted [] = omega arith
length-shifted (true ∷ ds) = omega (arith, length-shifted ds)
length-shifted (false ∷ ds) = omega arith

pub rows-shifted : (ds : Digits) → rows (shifted ds) ≡ rows ds
rows-shifted [] = refl
rows-shifted (true ∷ ds) = cc (rows-shifted ds)
rows-shifted (false ∷ ds) = refl

pub pairs-shifted : (ds : Digits) → pairs (shifted ds) ≡ pairs ds
pairs-shifted ds = degree-pairs (shifted ds) ∙ ap degree (rows-shifted ds) ∙ sym (degree-pairs ds)

-- the word of n digits without leading ones has their rows
pub rows_left : (n : ℕ) (ds : Digits) → length ds ≤ n → rows (digits n (word n (shifted ds))) ≡ rows (shifted ds)
rows_left n ds l =
    ap rows (digits-word n (shifted ds))
    ∙ rows-filled n (shifted ds) (omega (arith, length_last (last (shifted ds)), length-shifted ds))

-- ---- as words
-- one digit more, a zero at the end
word_more : (n : ℕ) (ds : Digits) → length ds ≤ n → word (suc n) ds ≡ word n ds * 2
unfolding word
word_more zero [] l = refl
word_more (suc n) [] l = refl
word_more zero (d ∷ ds) l = absurd (omega arith)
word_more (suc n) (true ∷ ds) l = omega (arith, word_more n ds (omega arith))
word_more (suc n) (false ∷ ds) l = word_more n ds (omega arith)

-- k ones in front of n digits, shifted by k: they go beyond the n digits, and what is left is the word without them
pub word-front : (ds : Digits) → word (length ds) ds * 2 ^ leading_ones ds + 2 ^ length ds
    ≡ 2 ^ leading_ones ds * 2 ^ length ds + word (length ds) (shifted ds)
unfolding word
word-front [] = omega arith
word-front (true ∷ ds) =
    let n : ℕ = length ds in
    let k : ℕ = leading_ones ds in
    let t : ℕ = word n ds in
    let more : word (suc n) (shifted ds) ≡ word n (shifted ds) * 2 = word_more n (shifted ds) (length-shifted ds) in
    let e : (2 ^ n + t) * (2 ^ k * 2) + 2 ^ n * 2 ≡ 2 ^ k * 2 * (2 ^ n * 2) + word n (shifted ds) * 2 =
    omega (arith, word-front ds) in
    rw (more, pow-suc 2 k, pow-suc 2 n) e
word-front (false ∷ ds) = omega arith

-- ---- the good word
pub dropped-shape : (w : ℕ) → shape_of (good_word w) ≡ shape_of w
dropped-shape w =
    let ds = digits width w in
    rows_left width ds (omega (arith, length_digits width w)) ∙ rows-shifted ds

pub dropped-good : (w : ℕ) → good_shape (good_word w) ≡ true
dropped-good w = shape-good (record { below = word-shifted shape_width (digits width w) })

-- it is the one good word of its shape
pub the-good-word : (w : ℕ) → TheWord (shape_of w) (good_word w)
the-good-word w = record {
  good = dropped-good w;
  its_shape = dropped-shape w;
  only = λ v g e.
      sym (shape-back v g) ∙ ap shape_word (e ∙ sym (dropped-shape w)) ∙ shape-back (good_word w) (dropped-good w);
}

-- so words of one shape have one good word
pub one-good-word : (v w : ℕ) → shape_of v ≡ shape_of w → good_word v ≡ good_word w
one-good-word v w e = (the-good-word w).only (good_word v) (dropped-good v) (dropped-shape v ∙ e)

pub good-clear : (w : ℕ) → good_shape w ≡ true → clear_sign w ≡ true
good-clear w g = lt-ltb w (2 ^ width) (omega (arith, (good-shape w g).below))

-- ---- dropping is idle on good words, and only there
pub good-kept : (w : ℕ) → good_shape w ≡ true → good_word w ≡ w
good-kept w g = sym ((the-good-word w).only w g refl)

pub none_dropped : (w : ℕ) → good_shape w ≡ true → dropped w ≡ 0
none_dropped w g = rw (digits-zero shape_width w (good-shape w g).below)

pub kept-good : (w : ℕ) → good_word w ≡ w → good_shape w ≡ true
kept-good w e = ap good_shape (sym e) ∙ dropped-good w

module _ (w : ℕ) (c : clear_sign w ≡ true) where
  -- as `word-front`
  dropped-front : w * 2 ^ dropped w + 2 ^ width ≡ 2 ^ dropped w * 2 ^ width + good_word w
  dropped-front =
      rw (length_digits width w, word-digits width w (ltb-true w (2 ^ width) c)) at (word-front (digits width w))

  pub undropped-good : dropped w ≡ 0 → good_shape w ≡ true
  undropped-good z = kept-good w (sym (omega (arith, rw z at dropped-front)))

-- the good word and the ones dropped tell the word
pub word-told : (v w : ℕ) → clear_sign v ≡ true → clear_sign w ≡ true → good_word v ≡ good_word w → dropped v ≡ dropped w
    → v ≡ w
word-told v w cv cw good ones =
    let k : ℕ = dropped w in
    let front : v * 2 ^ k + 2 ^ width ≡ 2 ^ k * 2 ^ width + good_word w = rw (ones, good) at (dropped-front v cv) in
    let e : v * 2 ^ k ≡ w * 2 ^ k = omega (arith, dropped-front w cw) in
    eq_of_mul-eq-mul_right (2 ^ k) (pow_pos k) v w e

-- ---- words of one shape
pub same_good : (w : ℕ) → clear_sign w ≡ true → SameShape w (good_word w)
same_good w c =
    record { first-clear = c; second-clear = good-clear (good_word w) (dropped-good w); shapes = sym (dropped-shape w) }

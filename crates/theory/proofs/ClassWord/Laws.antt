-- Class words, there and back: one word to a partition, and one partition to a word (document 01, "Class word").
--   OneToOne      held partitions and good class words correspond one to one
use Rattle.std.specs.Prelude.{◌≡◌, ◌≤◌, ◌<◌, ◌&&◌, ◌∷◌, ◌++◌, ◌+◌, ◌-◌, ◌^◌}
use Rattle.std.proofs.Math.Path.{refl}
use Rattle.std.proofs.Common.{sym, ◌∙◌, ap, zero-add, add-zero, add-suc, suc-add, arith, ltb-true, lt-ltb, le-ltb, pow_pos, pow_mono}
use Rattle.theory.specs.Basics.{true, false, not, [], replicate, length, ℕ, zero, suc}
use Rattle.theory.specs.Basics.{◌<?◌}
use Rattle.theory.proofs.Basics.Laws.{both}
use Rattle.theory.specs.Partition.{Parts, is_partition, degree, times, without}
use Rattle.theory.specs.Partition.Laws.{NoZero, none, some}
use Rattle.theory.proofs.Partition.Laws.{no_zero, without-partition, without-degree}
use Rattle.theory.specs.Digits.{Digits, bit, digits, word, width}
use Rattle.theory.proofs.Digits.Laws.{digits-zero, digits-one, top_bit, length_digits, word_below, word_none}
use Rattle.theory.proofs.Digits.Laws.{word-digits}
use Rattle.theory.specs.ClassWord.{class_digits, parts_after, class_word, class_of, good_class}
use Rattle.theory.specs.ClassWord.Laws.{Held, GoodClass}

-- ---- what the first part gives to the word
pub word-one : (z n : ℕ) (ds : Digits) → word (suc (z + n)) (replicate z false ++ true ∷ ds) ≡ 2 ^ n + word n ds
unfolding word
word-one zero n ds = rw zero-add
word-one (suc z) n ds = rw suc-add (word-one z n ds)

pub class-word-front : (n p : ℕ) (ps : Parts) → 0 < p → p ≤ n
    → word n (class_digits (p ∷ ps)) ≡ 2 ^ (n - p) + word (n - p) (class_digits ps)
class-word-front n p ps h l =
    let e : n ≡ suc (p - 1 + (n - p)) = omega arith in
    ap (λ (m : ℕ). word m (class_digits (p ∷ ps))) e ∙ word-one (p - 1) (n - p) (class_digits ps)

-- ---- the parts that digits give
pub parts-no-zero : (z : ℕ) (ds : Digits) → NoZero (parts_after z ds)
parts-no-zero z [] = none
parts-no-zero z (false ∷ ds) = parts-no-zero (suc z) ds
parts-no-zero z (true ∷ ds) = some (parts-no-zero 0 ds)

pub degree-parts : (z : ℕ) (ds : Digits) → degree (parts_after z ds) ≤ z + length ds
degree-parts z [] = omega arith
degree-parts z (false ∷ ds) = omega (arith, degree-parts (suc z) ds)
degree-parts z (true ∷ ds) = omega (arith, degree-parts 0 ds)

-- ---- reading a number of n digits
pub parts_none : (z n : ℕ) → parts_after z (digits n 0) ≡ []
parts_none z zero = unfold digits in refl
parts_none z (suc n) = rw (digits-zero n 0 (pow_pos n)) (parts_none (suc z) n)

-- behind z zeros, d more and a one end a part, and the n digits below give the others
pub parts-front : (z d n r : ℕ) → r < 2 ^ n
    → parts_after z (digits (suc (d + n)) (2 ^ n + r)) ≡ suc (z + d) ∷ parts_after 0 (digits n r)
parts-front z zero n r h = rw (zero-add, digits-one n r h, add-zero)
parts-front z (suc d) n r h =
    let m : 2 ^ suc n ≤ 2 ^ (suc d + n) = pow_mono (omega arith) in
    rw (digits-zero (suc d + n) (2 ^ n + r) (omega arith), suc-add d n, add-suc, ← suc-add z d)
    (parts-front (suc z) d n r h)

-- ---- there and back, at any number of digits
pub parts-word : {ps : Parts} (n : ℕ) → NoZero ps → degree ps ≤ n
    → parts_after 0 (digits n (word n (class_digits ps))) ≡ ps
parts-word n none h = rw (word_none n) (parts_none 0 n)
parts-word n (some {p = p} {ps = ps} f) h =
    let m : ℕ = n - suc p in
    let e : n ≡ suc (p + m) = omega arith in
    rw (class-word-front n (suc p) ps (omega arith) (omega arith))
    (ap (λ (k : ℕ). parts_after 0 (digits k (2 ^ m + word m (class_digits ps)))) e
    ∙ parts-front 0 p m (word m (class_digits ps)) (word_below m (class_digits ps))
    ∙ rw (zero-add, parts-word m f (omega arith)))

word-parts-after : (z : ℕ) (ds : Digits) → word (z + length ds) (class_digits (parts_after z ds)) ≡ word (length ds) ds
unfolding word
word-parts-after z [] = word_none (z + 0)
word-parts-after z (false ∷ ds) = rw (add-suc, ← suc-add) (word-parts-after (suc z) ds)
word-parts-after z (true ∷ ds) =
    let n : ℕ = length ds in
    let e : z + suc n - suc z ≡ n = omega arith in
    rw (class-word-front (z + suc n) (suc z) (parts_after 0 ds) (omega arith) (omega arith), e)
    (ap (λ (k : ℕ). 2 ^ n + k) (rw zero-add at (word-parts-after 0 ds)))

pub word-parts : (n x : ℕ) → x < 2 ^ n → word n (class_digits (parts_after 0 (digits n x))) ≡ x
word-parts n x h = rw (zero-add, length_digits) at (word-parts-after 0 (digits n x)) ∙ word-digits n x h

-- ---- at 31 digits
pub good-class : (w : ℕ) → good_class w ≡ true → GoodClass w
good-class w e =
    let b = both (w <? 2 ^ width) (is_partition (class_of w)) e in
    record { below = ltb-true w (2 ^ width) b.0; partition = b.1 }

pub class-good : {w : ℕ} → GoodClass w → good_class w ≡ true
class-good {w} g = rw (lt-ltb w (2 ^ width) g.below) g.partition

-- a number of 31 digits is good where its parts are a partition, a larger one never
pub good-of-below : (w : ℕ) → w < 2 ^ width → good_class w ≡ is_partition (class_of w)
good-of-below w h = rw (lt-ltb w (2 ^ width) h)

pub bad-above : (w : ℕ) → 2 ^ width ≤ w → good_class w ≡ false
bad-above w l = rw (le-ltb w (2 ^ width) l)

-- of a word of 32 bits: bit 31 is 0, and no part rises
pub good-by-bit-31 : (w : ℕ) → w < 2 ^ 32 → good_class w ≡ (not (bit 31 w) && is_partition (class_of w))
good-by-bit-31 w h = ap (λ t. t && is_partition (class_of w)) (top_bit width w h)

pub class-held : {w : ℕ} → GoodClass w → Held (class_of w)
class-held {w} g = record {
  partition = g.partition;
  room = omega (arith, degree-parts 0 (digits width w), length_digits width w);
}

pub class-of-word : {ps : Parts} → Held ps → class_of (class_word ps) ≡ ps
class-of-word {ps} h = parts-word width (no_zero ps h.partition) h.room

pub word-of-class : {w : ℕ} → w < 2 ^ width → class_word (class_of w) ≡ w
word-of-class {w} h = word-parts width w h

pub word_good : {ps : Parts} → Held ps → GoodClass (class_word ps)
word_good {ps} h = record {
  below = word_below width (class_digits ps);
  partition = ap is_partition (class-of-word h) ∙ h.partition;
}

-- one word to a partition, and one partition to a word
pub record OneToOne : Type 0 where
  pub to_word : {ps : Parts} → Held ps → GoodClass (class_word ps) × (class_of (class_word ps) ≡ ps)
  pub to-class : {w : ℕ} → GoodClass w → Held (class_of w) × (class_word (class_of w) ≡ w)
  pub same_class : {ps qs : Parts} → Held ps → Held qs → class_word ps ≡ class_word qs → ps ≡ qs
  pub same_word : {v w : ℕ} → GoodClass v → GoodClass w → class_of v ≡ class_of w → v ≡ w

pub one-to-one : OneToOne
one-to-one = record {
  to_word = λ h. (word_good h, class-of-word h);
  to-class = λ g. (class-held g, word-of-class g.below);
  same_class = λ h k e. sym (class-of-word h) ∙ ap class_of e ∙ class-of-word k;
  same_word = λ g k e. sym (word-of-class g.below) ∙ ap class_word e ∙ word-of-class k.below;
}

-- ---- a cycle taken out
pub without-held : (cycle : ℕ) {ps : Parts} → Held ps → (times cycle ps ≡ 0 → ⊥) → Held (without cycle ps)
without-held cycle {ps} h f = record {
  partition = without-partition cycle ps h.partition;
  room = omega (arith, without-degree cycle ps f, h.room);
}

pub without-good : (cycle : ℕ) {w : ℕ} → GoodClass w → (times cycle (class_of w) ≡ 0 → ⊥)
    → GoodClass (class_word (without cycle (class_of w)))
    × (class_of (class_word (without cycle (class_of w))) ≡ without cycle (class_of w))
without-good cycle g f = one-to-one.to_word (without-held cycle (class-held g) f)

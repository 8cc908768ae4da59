-- Shape words digit by digit, as code writes and reads them.
--   behind last rs                the digits behind the zero of a row of length `last`, before the rows rs
--   FirstDigit left x mask rest   what the first of `left` digits of x says of the ones and of the rows: it is a zero
--                                 where x is below the mask, else a one, and x less the mask has the `rest` digits
use Rattle.std.specs.Prelude.{◌≡◌, ◌≤◌, ◌<◌, ◌∷◌, ◌++◌, ◌+◌, ◌-◌, ◌^◌}
use Rattle.std.proofs.Common.{sym, ◌∙◌, ap, ⊎_elim, zero-add, suc-add, one-mul, add-sub_of_le, pos_of_ne-zero, arith, pow_mono}
use Rattle.std.proofs.Math.Nat.{sub-zero}
use Rattle.std.specs.Int.Count
use Rattle.theory.specs.Basics.{true, false, [], ℕ, zero, suc, length, replicate}
use Rattle.theory.specs.Partition.{Parts, first}
use Rattle.theory.specs.Digits.{Digits, digits, word, ones}
use Rattle.theory.proofs.Digits.Laws.{digits-zero, digits-one, top-cases, word_none, word-digits}
use Rattle.theory.proofs.Digits.LastOne.{last_none, word-last}
use Rattle.theory.specs.ShapeWord.{shape_digits, rows}
use Rattle.theory.proofs.ShapeWord.Laws.{rows-zero}

-- ---- writing
pub word-run : (k n : ℕ) (ds : Digits) → word (k + n) (replicate k true ++ ds) + 2 ^ n ≡ 2 ^ (k + n) + word n ds
unfolding word
word-run zero n ds = rw (zero-add n) (omega arith)
word-run (suc k) n ds = rw (suc-add k n) (omega (arith, word-run k n ds))

word_row : (k n : ℕ) (ds : Digits)
    → word (suc (k + n)) (false ∷ replicate k true ++ ds) ≡ (2 ^ (k + n) - 2 ^ n) + word n ds
unfolding word
word_row k n ds =
    let l : 2 ^ n ≤ 2 ^ (k + n) = pow_mono (omega arith) in
    omega (arith, word-run k n ds)

-- a row in front: a zero, a run of ones, and the word of the other rows in the digits that are left
pub shape-word-front : (n r : ℕ) (rs : Parts) → first rs ≤ r → suc (length rs) + r ≤ n
    → word n (shape_digits (r ∷ rs))
    ≡ (2 ^ (n - 1) - 2 ^ (n - 1 - (r - first rs))) + word (n - 1 - (r - first rs)) (shape_digits rs)
shape-word-front n r rs f l =
    let k : ℕ = r - first rs in
    let m : ℕ = n - 1 - k in
    let e : n ≡ suc (k + m) = omega arith in
    let d : k + m ≡ n - 1 = omega arith in
    ap (λ (i : ℕ). word i (shape_digits (r ∷ rs))) e ∙ word_row k m (shape_digits rs)
    ∙ ap (λ (i : ℕ). (2 ^ i - 2 ^ m) + word m (shape_digits rs)) d

-- 2^n is n ones and one more: of these a row's ones change nothing, and its zero takes its power away
abbrev pub behind : ℕ → Parts → Digits
behind last rs = replicate (last - first rs) true ++ shape_digits rs

pub row-behind : (n last r : ℕ) (rs : Parts) → r ≤ last → last - r < n
    → word n (behind last (r ∷ rs)) + 2 ^ suc (n - (last - r) - 1) ≡ 2 ^ n + word (n - (last - r) - 1) (behind r rs)
unfolding word
row-behind n last r rs f l =
    let k : ℕ = last - r in
    let m : ℕ = n - k - 1 in
    let e : k + suc m ≡ n = omega arith in
    rw e at (word-run k (suc m) (shape_digits (r ∷ rs)))

pub none-behind : (n last : ℕ) → last ≤ n → word n (behind last []) + 2 ^ (n - last) ≡ 2 ^ n
none-behind n last l =
    let e : last + (n - last) ≡ n = omega arith in
    rw sub-zero (omega (arith, rw e at (word-run last (n - last) []), word_none (n - last)))

-- ---- reading
pub ones-digits : (n x : ℕ) → x < 2 ^ n → ones (digits n x) ≡ Count.ones x
ones-digits zero x h = unfold digits in omega (arith, Count.ones-le 0 x h)
ones-digits (suc n) x h = ⊎_elim
    (λ l. rw (digits-zero n x l) (ones-digits n x l))
    (λ t. rw (t.2, digits-one n t.0 t.1) (ap suc (ones-digits n t.0 t.1) ∙ sym (one_more t.0 t.1)))
    (top-cases n x h)
  where
    one_more : (r : ℕ) → r < 2 ^ n → Count.ones (2 ^ n + r) ≡ suc (Count.ones r)
    one_more r h = ap (λ (m : ℕ). Count.ones (m + r)) (sym (one-mul (2 ^ n))) ∙ Count.ones_cat n 1 r h
        ∙ omega (arith, Count.ones-ones 1)

pub ones-some : (n x : ℕ) → (x ≡ 0 → ⊥) → x < 2 ^ n → 0 < ones (digits n x)
ones-some n x f h = pos_of_ne-zero (λ e. f
    (sym (word-digits n x h) ∙ sym (word-last n (digits n x)) ∙ ap (word n) (last_none (digits n x) e) ∙ word_none n))

pub record FirstDigit (left x mask rest : ℕ) : Type 0 where
  pub some : 0 < left
  pub zero_rest : x < mask → x < 2 ^ rest
  pub zero-ones : x < mask → ones (digits left x) ≡ ones (digits rest x)
  pub zero-rows : x < mask → rows (digits left x) ≡ ones (digits left x) ∷ rows (digits rest x)
  pub one-rest : mask ≤ x → x - mask < 2 ^ rest
  pub one-ones : mask ≤ x → ones (digits left x) ≡ suc (ones (digits rest (x - mask)))
  pub one-rows : mask ≤ x → rows (digits left x) ≡ rows (digits rest (x - mask))

pub first-digit : (left x : ℕ) → (x ≡ 0 → ⊥) → x < 2 ^ left → FirstDigit left x (2 ^ (left - 1)) (left - 1)
first-digit zero x f l = absurd (f (omega arith))
first-digit (suc n) x f l =
    let e : suc n - 1 ≡ n = omega arith in
    let rest : 2 ^ n ≤ x → x - 2 ^ n < 2 ^ n = λ g. omega arith in
    let one : 2 ^ n ≤ x → digits (suc n) x ≡ true ∷ digits n (x - 2 ^ n) =
    λ g. ap (digits (suc n)) (sym (add-sub_of_le g)) ∙ digits-one n (x - 2 ^ n) (rest g) in
    rw e
    (record {
      some = omega arith;
      zero_rest = λ g. g;
      zero-ones = λ g. ap ones (digits-zero n x g);
      zero-rows = λ g. rw (digits-zero n x g) (rows-zero (digits n x) (ones-some n x f g));
      one-rest = rest;
      one-ones = λ g. ap ones (one g);
      one-rows = λ g. ap rows (one g);
    })

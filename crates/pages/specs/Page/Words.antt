-- A page's word is read as a line and written from one, there and back.
--   Plain l   the line l can be written down as a word: its weight is 1 or -1, its words have room
use Rattle.std.specs.Prelude.{◌≡◌, refl, ◌<◌, ◌∷◌, ◌+◌, ◌*◌, ◌/◌, ◌%◌, ◌^◌}
use Rattle.std.proofs.Common.{◌∙◌, ap, ap₂, arith, eq-eqb, ne_eqb, eqb-true}
use Rattle.std.proofs.lemmas.Bool.{eqb-false}
use Rattle.theory.specs.Basics.{Bool, true, false, List, [], map, take, drop, get_or, ℕ, zero, suc}
use Rattle.theory.specs.Basics.{ℤ, pos, negsuc, nat_abs, Each}
use Rattle.theory.specs.Digits.{bit}
use Rattle.theory.proofs.Bounds.Laws.{abs-signed}
use Rattle.pages.specs.Line.{Line}
use Rattle.pages.specs.Page.{line_of, word_of, plain}

pub record Plain (l : Line) : Type 0 where
  pub unit : nat_abs l.weight ≡ 1
  pub shape-fits : l.shape < 2 ^ 31
  pub class-fits : l.class < 2 ^ 32

pub unit-weight : (x : ℕ) → nat_abs (line_of x).weight ≡ 1
unit-weight x = abs-signed (bit 63 x) (pos 1)

pub plain-line : (x : ℕ) → Plain (line_of x)
plain-line x = record { unit = unit-weight x; shape-fits = omega arith; class-fits = omega arith }

pub plain_lines : (xs : List ℕ) → Each Plain (map line_of xs)
plain_lines [] = tt
plain_lines (x ∷ xs) = (plain-line x, plain_lines xs)

-- ---- written and read
module _ (shape class : ℕ) (s : shape < 2 ^ 31) (c : class < 2 ^ 32) where
  pub plain-read : (minus : Bool) → line_of (word_of (plain minus shape class)) ≡ plain minus shape class
  plain-read true =
      let x : ℕ = (2 ^ 31 + shape) * 2 ^ 32 + class in
      let b : bit 63 x ≡ true = eq-eqb (x / 2 ^ 63 % 2) 1 (omega arith) in
      let e : x / 2 ^ 32 % 2 ^ 31 ≡ shape = omega arith in
      let f : x % 2 ^ 32 ≡ class = omega arith in
      rw (b, e, f)
  plain-read false =
      let x : ℕ = (0 + shape) * 2 ^ 32 + class in
      let b : bit 63 x ≡ false = ne_eqb (x / 2 ^ 63 % 2) 1 (λ e. omega arith) in
      let e : x / 2 ^ 32 % 2 ^ 31 ≡ shape = omega arith in
      let f : x % 2 ^ 32 ≡ class = omega arith in
      rw (b, e, f)

  by_sign : (w : ℤ) → nat_abs w ≡ 1 → line_of (word_of (record { weight = w; shape = shape; class = class }))
      ≡ record { weight = w; shape = shape; class = class }
  by_sign (pos zero) e = absurd (omega arith)
  by_sign (pos (suc zero)) e = plain-read false
  by_sign (pos (suc (suc n))) e = absurd (omega arith)
  by_sign (negsuc zero) e = plain-read true
  by_sign (negsuc (suc n)) e = absurd (omega arith)

pub line_read : (l : Line) → Plain l → line_of (word_of l) ≡ l
line_read l p = by_sign l.shape l.class p.shape-fits p.class-fits l.weight p.unit

pub lines-read : (lines : List Line) → Each Plain lines → map line_of (map word_of lines) ≡ lines
lines-read [] e = refl
lines-read (l ∷ lines) e = ap₂ ◌∷◌ (line_read l e.0) (lines-read lines e.1)

-- ---- read and written
pub word_read : (x : ℕ) → x < 2 ^ 64 → word_of (line_of x) ≡ x
word_read x h = go (bit 63 x) refl
  where
    go : (b : Bool) → bit 63 x ≡ b → word_of (plain b (x / 2 ^ 32 % 2 ^ 31) (x % 2 ^ 32)) ≡ x
    go true e = omega (arith, eqb-true (x / 2 ^ 63 % 2) 1 e)
    go false e = omega (arith, eqb-false (x / 2 ^ 63 % 2) 1 e)

pub words-read : (xs : List ℕ) → ((i : ℕ) → get_or xs i 0 < 2 ^ 64) → map word_of (map line_of xs) ≡ xs
words-read [] h = refl
words-read (x ∷ xs) h = ap₂ ◌∷◌ (word_read x (h 0)) (words-read xs (λ i. h (suc i)))

-- ---- a part of a page
module _ {A B : Type 0} (f : A → B) where
  pub map-take : (n : ℕ) (xs : List A) → map f (take n xs) ≡ take n (map f xs)
  map-take zero xs = refl
  map-take (suc n) [] = refl
  map-take (suc n) (x ∷ xs) = ap (λ ys. f x ∷ ys) (map-take n xs)

  pub map-drop : (n : ℕ) (xs : List A) → map f (drop n xs) ≡ drop n (map f xs)
  map-drop zero xs = refl
  map-drop (suc n) [] = refl
  map-drop (suc n) (x ∷ xs) = map-drop n xs

pub front_read : (n : ℕ) (page : List ℕ) → ((i : ℕ) → get_or page i 0 < 2 ^ 64)
    → map word_of (map line_of (take n page)) ≡ take n page
front_read n page bits =
    ap (map word_of) (map-take line_of n page) ∙ map-take word_of n (map line_of page) ∙ ap (take n) (words-read page bits)

-- Lines of the gathered mode, as the code meets them: by their words, whose sign digits are to be clear, and by their
-- coefficients.
use Rattle.std.specs.Prelude.{◌&&◌, ◌∷◌, ◌+◌, ◌-◌, ◌*◌, ◌/◌, ◌%◌, ◌^◌}
use mathlib.Core.Path.{◌≡◌, refl, ◌∙◌, ap, ap₂}
use native.Mathlib.Nat.{zero-mul}
use Prim.Native.Nat.{◌≤◌, ◌<◌}
use native.Mathlib.Numerals.{add-one}
use native.Mathlib.Omega.{arith}
use borrow.Author.Tests.{le-ltb, lt-ltb, le-leb, lt-leb, eq-eqb, ne_eqb, eqb-true, eqb-false}
use lib.ListN.{drop_of_length-le}
use lib.Seq.{drop-cons}
use Rattle.theory.specs.Basics.{Bool, true, false, not, List, [], length, get_or, drop, ℕ}
use Rattle.theory.specs.Basics.{ℤ, pos, nat_abs, ◌=?◌, ◌≤?◌, ◌<?◌, every}
use Rattle.theory.proofs.Basics.Laws.{both}
use Rattle.theory.proofs.Basics.Keep.{same_test}
use Rattle.theory.specs.Digits.{bit}
use Rattle.pages.specs.Gathering.{alike, distinct}
use Rattle.pages.specs.Mode.{weighted, alongside}
use Rattle.pages.specs.Private.Differences.{all_different}
use Rattle.pages.specs.Private.Gathered.{word_cost, more_cost, suffices_besides}

-- ---- words differ where lines do
alike-words : (x y : ℕ) (z w : ℤ) → alike (weighted x z) (weighted y w) ≡ x =? y
alike-words x y z w =
    let shapes : Bool = x / 2 ^ 32 =? y / 2 ^ 32 in
    let classes : Bool = x % 2 ^ 32 =? y % 2 ^ 32 in
    same_test (shapes && classes) (x =? y)
    (λ t.
    let b = both shapes classes t in
    eq-eqb x y (omega (arith, eqb-true (x / 2 ^ 32) (y / 2 ^ 32) b.0, eqb-true (x % 2 ^ 32) (y % 2 ^ 32) b.1)))
    (λ t.
    let e = eqb-true x y t in
    rw (eq-eqb (x / 2 ^ 32) (y / 2 ^ 32) (ap (◌/ 2 ^ 32) e), eq-eqb (x % 2 ^ 32) (y % 2 ^ 32) (ap (◌% 2 ^ 32) e)))

unlike-words : (x : ℕ) (z : ℤ) (xs : List ℕ) (zs : List ℤ) → length xs ≡ length zs
    → every (λ m. not (alike (weighted x z) m)) (alongside xs zs) ≡ every (λ y. not (x =? y)) xs
unlike-words x z [] zs e = refl
unlike-words x z (y ∷ xs) [] e = absurd (omega arith)
unlike-words x z (y ∷ xs) (w ∷ zs) e =
    ap₂ (λ (a b : Bool). not a && b) (alike-words x y z w) (unlike-words x z xs zs (omega arith))

pub different-words : (xs : List ℕ) (zs : List ℤ) → length xs ≡ length zs
    → distinct (alongside xs zs) ≡ all_different xs
unfolding distinct all_different
different-words [] zs e = refl
different-words (x ∷ xs) [] e = absurd (omega arith)
different-words (x ∷ xs) (z ∷ zs) e =
    ap₂ ◌&&◌ (unlike-words x z xs zs (omega arith)) (different-words xs zs (omega arith))

-- ---- from line to line
module _ (limit : ℕ) (xs : List ℕ) (zs : List ℤ) where
  module _ (value i : ℕ) where
    abbrev suffice-from : ℕ → ℕ → Bool
    suffice-from value k = suffices_besides limit value (drop k xs) (drop k zs)

    pub besides-end : length xs ≤ i → true ≡ suffice-from value i
    unfolding suffices_besides
    besides-end end = rw (drop_of_length-le xs end)

    -- the word and the coefficient of the line
    module _ {x : ℕ} {z : ℤ}
        (turn : (i < length xs) × (i < length zs) × ((d : ℕ) → x ≡ get_or xs i d) × ((d : ℤ) → z ≡ get_or zs i d)) where
      one_line : suffice-from value i
          ≡ (x <? 2 ^ 63 && not (nat_abs z =? 0) && more_cost limit x z ≤? value
          && suffice-from (value - more_cost limit x z) (i + 1))
      unfolding suffices_besides
      one_line =
          rw (turn.2 0, turn.3 (pos 0), add-one i, drop-cons xs i 0 turn.0, drop-cons zs i (pos 0) turn.1) refl

      pub besides-sign : bit 63 x ≡ true → false ≡ suffice-from value i
      besides-sign set =
          let above : 2 ^ 63 ≤ x = omega (arith, eqb-true (x / 2 ^ 63 % 2) 1 set) in
          rw (one_line, le-ltb x (2 ^ 63) above)

      module _ (small : x < 2 ^ 64) (unset : bit 63 x ≡ false) where
        below : x <? 2 ^ 63 ≡ true
        below = lt-ltb x (2 ^ 63) (omega (arith, eqb-false (x / 2 ^ 63 % 2) 1 unset))

        pub besides-zero : nat_abs z ≡ 0 → false ≡ suffice-from value i
        besides-zero none = rw (one_line, below, none)

        module _ (some : nat_abs z ≡ 0 → ⊥) where
          pub besides-dear : value < more_cost limit x z → false ≡ suffice-from value i
          besides-dear dear =
              rw (one_line, below, ne_eqb (nat_abs z) 0 some, lt-leb (more_cost limit x z) value dear)

          pub besides-next : more_cost limit x z ≤ value
              → suffice-from (value - more_cost limit x z) (i + 1) ≡ suffice-from value i
          besides-next paid =
              rw (one_line, below, ne_eqb (nat_abs z) 0 some, le-leb (more_cost limit x z) value paid)

          -- a coefficient of size 1 asks for nothing besides
          pub besides-once : nat_abs z ≤ 1 → suffice-from value (i + 1) ≡ suffice-from value i
          besides-once one =
              let none : more_cost limit x z ≡ 0 =
              ap (λ k. k * word_cost limit x) (omega (arith, some)) ∙ zero-mul (word_cost limit x) in
              let same : value ≡ value - more_cost limit x z = omega (arith, none) in
              ap (λ v. suffice-from v (i + 1)) same ∙ besides-next (omega (arith, none))

-- Words that differ from each other, one word more at a time.
use Rattle.std.specs.Prelude.{◌&&◌, ◌∷◌, ◌++◌, ◌+◌}
use mathlib.Core.Path.{◌≡◌, refl, sym, ◌∙◌, ap}
use mathlib.Core.Bool.{false≢true, and-true, and_assoc}
use Prim.Native.Nat.{◌≤◌, ◌<◌}
use native.Mathlib.Decide.{ℕ_discrete}
use native.Mathlib.Numerals.{add-one}
use borrow.Author.Tests.{eq-eqb, ne_eqb}
use lib.ListN.{take-append-drop}
use lib.Seq.{take-suc, take_all}
use Rattle.theory.specs.Basics.{Bool, true, false, not, List, [], length, get_or, take, drop}
use Rattle.theory.specs.Basics.{every, ℕ, suc, ◌=?◌}
use Rattle.theory.proofs.Basics.Laws.{both}
use Rattle.pages.specs.Private.Differences.{all_different, absent}

-- ---- one word more at the end
every-last : {A : Type 0} (test : A → Bool) (xs : List A) (x : A)
    → every test (xs ++ (x ∷ [])) ≡ every test xs && test x
every-last test [] x = and-true (test x)
every-last test (y ∷ ys) x = rw (every-last test ys x) (sym (and_assoc (test y) (every test ys) (test x)))

pub absent-last : (w : ℕ) (xs : List ℕ) (k : ℕ) → k < length xs
    → absent w (take (suc k) xs) ≡ absent w (take k xs) && not (w =? get_or xs k 0)
absent-last w xs k h = rw (take-suc xs k 0 h) (every-last (λ y. not (w =? y)) (take k xs) (get_or xs k 0))

same-turned : (x y : ℕ) → x =? y ≡ y =? x
same-turned x y = elim (ℕ_discrete x y) [
  | yes e ↦ eq-eqb x y e ∙ sym (eq-eqb y x (sym e))
  | no n ↦ ne_eqb x y n ∙ sym (ne_eqb y x (λ e. n (sym e)))
]

different-last : (xs : List ℕ) (w : ℕ) → all_different (xs ++ (w ∷ [])) ≡ all_different xs && absent w xs
unfolding all_different
different-last [] w = refl
different-last (x ∷ xs) w =
    rw (every-last (λ y. not (x =? y)) xs w, different-last xs w, same-turned x w)
    (go (absent x xs) (not (w =? x)) (all_different xs) (absent w xs))
  where
    go : (a b c d : Bool) → (a && b) && (c && d) ≡ (a && c) && (b && d)
    go true true c d = refl
    go true false true d = refl
    go true false false d = refl
    go false b c d = refl

-- ---- fewer words
every_front : {A : Type 0} (test : A → Bool) (xs ys : List A) → every test (xs ++ ys) ≡ true → every test xs ≡ true
every_front test [] ys e = refl
every_front test (x ∷ xs) ys e =
    let h = both (test x) _ e in
    rw h.0 (every_front test xs ys h.1)

different-front : (xs ys : List ℕ) → all_different (xs ++ ys) ≡ true → all_different xs ≡ true
unfolding all_different
different-front [] ys e = refl
different-front (x ∷ xs) ys e =
    let h = both (absent x (xs ++ ys)) _ e in
    rw (every_front (λ y. not (x =? y)) xs ys h.0) (different-front xs ys h.1)

-- ---- from word to word
module _ (xs : List ℕ) (i : ℕ) (there : i < length xs) (so_far : all_different (take i xs) ≡ true) where
  different-next : all_different (take (suc i) xs) ≡ absent (get_or xs i 0) (take i xs)
  different-next = rw (take-suc xs i 0 there) (different-last (take i xs) (get_or xs i 0) ∙ rw so_far refl)

  pub one-more-different : absent (get_or xs i 0) (take i xs) ≡ true → all_different (take (i + 1) xs) ≡ true
  one-more-different new = rw add-one (different-next ∙ new)

  pub two-are-equal : absent (get_or xs i 0) (take i xs) ≡ false → false ≡ all_different xs
  two-are-equal seen = go (all_different xs) refl
    where
      go : (b : Bool) → all_different xs ≡ b → false ≡ b
      go false e = refl
      go true e =
          let all : all_different (take (suc i) xs ++ drop (suc i) xs) ≡ true =
          ap all_different (take-append-drop (suc i) xs) ∙ e in
          absurd (false≢true (sym (different-next ∙ seen) ∙ different-front (take (suc i) xs) _ all))

pub all-are-different : (xs : List ℕ) (i : ℕ) → length xs ≤ i → all_different (take i xs) ≡ true
    → true ≡ all_different xs
all-are-different xs i end e = sym (ap all_different (sym (take_all i xs end)) ∙ e)

-- No two hooks of one length leave the same word (document 01, "Hook of length h"), for any word w. Of two hooks, the
-- one whose zero is earlier leaves a one there, and the other leaves that zero. All leave as many digits and as many
-- ones as there were, so the good word tells how many leading ones were dropped.
--   Apart xs         no element of xs equals a later one
--   left hs          what the hooks hs leave, as digits
--   OfOnes n m ds    ds are n digits, and m of them are ones
use Rattle.std.specs.Prelude.{◌≡◌, refl, ◌≤◌, ◌∷◌, ◌++◌, ◌+◌}
use Rattle.std.proofs.Common.{sym, ◌∙◌, ap, ap₂, true≢false, arith}
use mathlib.Core.List.{map-map, head-eq_of_cons-eq, tail-eq_of_cons-eq}
use Rattle.theory.specs.Basics.{Bool, true, false, List, [], map, take, drop, length, replicate}
use Rattle.theory.specs.Basics.{ℕ, zero, suc, Each}
use Rattle.theory.proofs.Basics.Laws.{each_map, each_member}
use Rattle.theory.specs.Digits.{Digits, digits, word, ones, width}
use Rattle.theory.proofs.Digits.Laws.{filled, digits-word, length_digits}
use Rattle.theory.proofs.Digits.LastOne.{last, last-filled, length_last, ones-last, ones-run}
use Rattle.theory.specs.ShapeWord.{shifted, leading_ones}
use Rattle.theory.proofs.ShapeWord.InFront.{front-ones}
use Rattle.theory.specs.Hooks.{Hook, hooks, hook_word, hook_words}
use Rattle.theory.proofs.Hooks.Walk.{led, hook_over, hooks-none, hooks-one, hooks-zero, no_length}
use Rattle.theory.proofs.Hooks.Laws.{Exchange, exchanges}

abbrev pub Apart : {A : Type 0} → List A → Type 0
Apart [] = Unit {0}
Apart (x ∷ xs) = Each (λ y. x ≡ y → ⊥) xs × Apart xs

-- elements of which P holds stay apart under f, if f tells such elements
module _ {A B : Type 0} (P : A → Type 0) (f : A → B) (told : (x y : A) → P x → P y → f x ≡ f y → x ≡ y) where
  others-map : (x : A) → P x → (ys : List A) → Each P ys → Each (λ y. x ≡ y → ⊥) ys → Each (λ z. f x ≡ z → ⊥) (map f ys)
  others-map x p [] each other = tt
  others-map x p (y ∷ ys) each other =
      (λ e. other.0 (told x y p each.0 e), others-map x p ys each.1 other.1)

  pub apart-map : (xs : List A) → Each P xs → Apart xs → Apart (map f xs)
  apart-map [] each apart = tt
  apart-map (x ∷ xs) each apart =
      (others-map x each.0 xs each.1 apart.0, apart-map xs each.1 apart.1)

-- ---- the digits that are left
abbrev left : List (Hook Digits) → List Digits
left hs = map (λ hook. hook.leaves) hs

apart-led : (d : Bool) (hs : List (Hook Digits)) → Apart (left hs) → Apart (left (map (led d) hs))
apart-led d hs apart =
    rw (
      map-map (λ (hook : Hook Digits). hook.leaves) (led d) hs,
      ← (map-map (λ (ds : Digits). d ∷ ds) (λ (hook : Hook Digits). hook.leaves) hs),
    )
    (apart-map Any (λ ds. d ∷ ds) (λ x y p q e. tail-eq_of_cons-eq e) (left hs)
    (each_member Any (left hs) (λ x m. tt)) apart)
  where
    Any : Digits → Type 0
    Any ds = Unit {0}

-- a hook of the first zero leaves a one in front, and the others leave the zero
apart-first : (between after : Digits) (hs : List (Hook Digits)) → Apart (left (map (led false) hs))
    → Apart (left (hook_over between after ++ map (led false) hs))
apart-first between [] hs apart = apart
apart-first between (false ∷ after) hs apart = apart
apart-first between (true ∷ after) hs apart = (others hs, apart)
  where
    others : (gs : List (Hook Digits))
        → Each (λ ds. true ∷ between ++ false ∷ after ≡ ds → ⊥) (left (map (led false) gs))
    others [] = tt
    others (g ∷ gs) = (λ e. true≢false (head-eq_of_cons-eq e), others gs)

left-apart : (h : ℕ) (ds : Digits) → Apart (left (hooks h ds))
left-apart zero ds = rw (no_length ds) tt
left-apart (suc k) [] = rw (hooks-none (suc k)) tt
left-apart (suc k) (true ∷ ds) = rw (hooks-one (suc k) ds) (apart-led true (hooks (suc k) ds) (left-apart (suc k) ds))
left-apart (suc k) (false ∷ ds) = rw (hooks-zero k ds)
    (apart-first (take k ds) (drop k ds) (hooks (suc k) ds)
    (apart-led false (hooks (suc k) ds) (left-apart (suc k) ds)))

-- ---- the good word and the number of ones tell the digits
ones-front : (ds : Digits) → leading_ones ds + ones (shifted ds) ≡ ones ds
ones-front ds = sym (ones-run (leading_ones ds) (shifted ds)) ∙ ap ones (front-ones ds)

length_front : (ds : Digits) → leading_ones ds + length (shifted ds) ≡ length ds
length_front [] = omega arith
length_front (true ∷ ds) = omega (arith, length_front ds)
length_front (false ∷ ds) = omega arith

ones-filled : (n : ℕ) (ds : Digits) → length ds ≤ n → ones (filled n ds) ≡ ones ds
ones-filled n ds l =
    sym (ones-last (last (filled n ds))) ∙ ap ones (last-filled n ds (omega (arith, length_last (last ds))))
    ∙ ones-last (last ds)

take-filled : (n : ℕ) (ds : Digits) → length ds ≤ n → take (length ds) (filled n ds) ≡ ds
unfolding filled
take-filled n [] l = refl
take-filled zero (d ∷ ds) l = absurd (omega arith)
take-filled (suc n) (d ∷ ds) l = ap {B = Digits} (λ es. d ∷ es) (take-filled n ds (omega arith))

abbrev OfOnes : ℕ → ℕ → Digits → Type 0
OfOnes n m ds = (length ds ≡ n) × (ones ds ≡ m)

digits-told : (n m : ℕ) (ds es : Digits) → OfOnes n m ds → OfOnes n m es
    → word n (shifted ds) ≡ word n (shifted es) → ds ≡ es
digits-told n m ds es (n-ds, m-ds) (n-es, m-es) same =
    let full : filled n (shifted ds) ≡ filled n (shifted es) =
    sym (digits-word n (shifted ds)) ∙ ap (digits n) same ∙ digits-word n (shifted es) in
    let short-ds : length (shifted ds) ≤ n = omega (arith, length_front ds) in
    let short-es : length (shifted es) ≤ n = omega (arith, length_front es) in
    let good : ones (shifted ds) ≡ ones (shifted es) =
    sym (ones-filled n (shifted ds) short-ds) ∙ ap ones full ∙ ones-filled n (shifted es) short-es in
    let front : leading_ones ds ≡ leading_ones es = omega (arith, ones-front ds, ones-front es) in
    let long : length (shifted ds) ≡ length (shifted es) = omega (arith, length_front ds, length_front es) in
    let behind : shifted ds ≡ shifted es =
    sym (take-filled n (shifted ds) short-ds) ∙ ap₂ (λ (k : ℕ) (l : Digits). take k l) long full
    ∙ take-filled n (shifted es) short-es in
    sym (front-ones ds) ∙ ap₂ (λ (k : ℕ) (l : Digits). replicate k true ++ l) front behind ∙ front-ones es

-- ---- the words that are left
pub hooks-apart : (h w : ℕ) → Apart (map (λ hook. hook.leaves) (hook_words h w))
unfolding hook_words
hooks-apart h w =
    let ds : Digits = digits width w in
    let hs : List (Hook Digits) = hooks h ds in
    rw (
      map-map (λ (hook : Hook ℕ). hook.leaves) hook_word hs,
      ← (map-map (λ (es : Digits). word width (shifted es)) (λ (hook : Hook Digits). hook.leaves) hs),
    )
    (apart-map (OfOnes width (ones ds)) (λ es. word width (shifted es)) (digits-told width (ones ds)) (left hs)
    (each_map (Exchange h ds) (OfOnes width (ones ds)) (λ hook. hook.leaves) hs
    (λ hook e. (e.same_length ∙ length_digits width w, e.same-ones)) (exchanges h ds))
    (left-apart h ds))

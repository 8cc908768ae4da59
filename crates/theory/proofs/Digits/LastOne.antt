-- Laws of the ones among digits and of the digits up to the last one.
--   LastOne ds us   us are the digits ds up to the last one, seen digit by digit
use Rattle.std.specs.Prelude.{◌≡◌, refl, ◌⊎◌, ◌≤◌, ◌<◌, ◌∷◌, ◌++◌, ◌+◌}
use Rattle.std.proofs.Common.{sym, ◌∙◌, ap, inl, inr, ⊎_elim, pos_of_ne-zero, arith, eq-eqb, ne_eqb}
use Rattle.std.proofs.Math.Decide.{ℕ_discrete}
use Rattle.theory.specs.Basics.{Bool, true, false, [], ℕ, zero, suc, length, replicate}
use Rattle.theory.proofs.Basics.Laws.{count-append}
use Rattle.theory.specs.Digits.{Digits, word, ones, zeros, up_to_last_one}
use Rattle.theory.proofs.Digits.Laws.{filled, word-filled}

-- ---- ones
pub ones-append : (ds es : Digits) → ones (ds ++ es) ≡ ones ds + ones es
ones-append = count-append (λ d. d)

pub ones-run : (k : ℕ) (ds : Digits) → ones (replicate k true ++ ds) ≡ k + ones ds
ones-run zero ds = omega arith
ones-run (suc k) ds = omega (arith, ones-run k ds)

pub ones_none : (n : ℕ) → ones (replicate n false) ≡ 0
ones_none zero = refl
ones_none (suc n) = ones_none n

pub ones-zeros : (ds : Digits) → ones ds + zeros ds ≡ length ds
ones-zeros [] = refl
ones-zeros (true ∷ ds) = omega (arith, ones-zeros ds)
ones-zeros (false ∷ ds) = omega (arith, ones-zeros ds)

-- ---- up to the last one
pub last_none : (ds : Digits) → ones ds ≡ 0 → up_to_last_one ds ≡ []
last_none [] e = refl
last_none (d ∷ ds) e = rw (eq-eqb (ones (d ∷ ds)) 0 e)

pub last_some : (d : Bool) (ds : Digits) → 0 < ones (d ∷ ds) → up_to_last_one (d ∷ ds) ≡ d ∷ up_to_last_one ds
last_some d ds h = rw (ne_eqb (ones (d ∷ ds)) 0 (λ e. omega arith))

pub data LastOne : Digits → Digits → Type 0 where
  none : {ds : Digits} → ones ds ≡ 0 → LastOne ds []
  some : {d : Bool} {ds us : Digits} → 0 < ones (d ∷ ds) → LastOne ds us → LastOne (d ∷ ds) (d ∷ us)

pub last : (ds : Digits) → LastOne ds (up_to_last_one ds)
last [] = none refl
last (d ∷ ds) = elim (ℕ_discrete (ones (d ∷ ds)) 0) [
  | yes e ↦ rw (last_none (d ∷ ds) e) (none e)
  | no f ↦ rw (last_some d ds (pos_of_ne-zero f)) (some (pos_of_ne-zero f) (last ds))
]

up_to : {ds us : Digits} → LastOne ds us → up_to_last_one ds ≡ us
up_to (none {ds = ds} e) = last_none ds e
up_to (some {d = d} {ds = ds} h u) = last_some d ds h ∙ ap (λ (l : Digits). d ∷ l) (up_to u)

pub last_one : (ds : Digits) → up_to_last_one (ds ++ (true ∷ [])) ≡ ds ++ (true ∷ [])
last_one [] = refl
last_one (d ∷ ds) =
    last_some d (ds ++ (true ∷ [])) (omega (arith, ones-append (d ∷ ds) (true ∷ [])))
    ∙ ap (λ (l : Digits). d ∷ l) (last_one ds)

pub last-zero : (ds : Digits) → up_to_last_one (ds ++ (false ∷ [])) ≡ up_to_last_one ds
last-zero [] = refl
last-zero (d ∷ ds) =
    let e : ones (d ∷ (ds ++ (false ∷ []))) ≡ ones (d ∷ ds) = omega (arith, ones-append (d ∷ ds) (false ∷ [])) in
    rw (e, last-zero ds)

pub length_last : {ds us : Digits} → LastOne ds us → length us ≤ length ds
length_last (none e) = omega arith
length_last (some h u) = omega (arith, length_last u)

pub ones-last : {ds us : Digits} → LastOne ds us → ones us ≡ ones ds
ones-last (none e) = sym e
ones-last (some {d = true} h u) = ap suc (ones-last u)
ones-last (some {d = false} h u) = ones-last u

-- they end with a one
pub ends-one : {ds us : Digits} → LastOne ds us → (us ≡ []) ⊎ ((vs : Digits) × (us ≡ vs ++ (true ∷ [])))
ends-one (none e) = inl refl
ends-one (some {d = d} {ds = ds} h u) = ⊎_elim
    (λ e. inr ([], cons d h (sym (ones-last u) ∙ ap ones e) e))
    (λ v. inr (d ∷ v.0, ap (λ (l : Digits). d ∷ l) v.1))
    (ends-one u)
  where
    cons : (d : Bool) → 0 < ones (d ∷ ds) → ones ds ≡ 0 → {us : Digits} → us ≡ [] → d ∷ us ≡ true ∷ []
    cons true h o e = ap (λ (l : Digits). true ∷ l) e
    cons false h o e = absurd (omega arith)

-- ---- the digits behind the last one fill like zeros
pub filled-zeros : (n : ℕ) (ds : Digits) → ones ds ≡ 0 → filled n ds ≡ replicate n false
unfolding filled
filled-zeros zero ds e = refl
filled-zeros (suc n) [] e = ap {B = Digits} (λ l. false ∷ l) (filled-zeros n [] e)
filled-zeros (suc n) (true ∷ ds) e = absurd (omega arith)
filled-zeros (suc n) (false ∷ ds) e = ap {B = Digits} (λ l. false ∷ l) (filled-zeros n ds e)

pub filled-last : {ds us : Digits} (n : ℕ) → LastOne ds us → filled n us ≡ filled n ds
unfolding filled
filled-last n (none {ds = ds} e) = filled-zeros n [] refl ∙ sym (filled-zeros n ds e)
filled-last zero (some h u) = refl
filled-last (suc n) (some {d = d} h u) = ap (λ (l : Digits). d ∷ l) (filled-last n u)

pub word-last : (n : ℕ) (ds : Digits) → word n (up_to_last_one ds) ≡ word n ds
word-last n ds = sym (word-filled n (up_to_last_one ds)) ∙ ap (word n) (filled-last n (last ds)) ∙ word-filled n ds

fill : {ds us : Digits} (n : ℕ) → LastOne ds us → length us ≤ n → LastOne (filled n ds) us
unfolding filled
fill n (none {ds = ds} e) l = none {ds = filled n ds} (rw (filled-zeros n ds e) (ones_none n))
fill zero (some h u) l = absurd (omega arith)
fill (suc n) (some {d = d} {ds = ds} h u) l =
    let v = fill n u (omega arith) in
    let e : ones (filled n ds) ≡ ones ds = sym (ones-last v) ∙ ones-last u in
    let p : 0 < ones (d ∷ filled n ds) = omega (arith, ones-append (d ∷ []) ds, ones-append (d ∷ []) (filled n ds)) in
    some p v

pub last-filled : (n : ℕ) (ds : Digits) → length (up_to_last_one ds) ≤ n → up_to_last_one (filled n ds) ≡ up_to_last_one ds
last-filled n ds l = up_to (fill n (last ds) l)

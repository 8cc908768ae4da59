-- The beta-numbers of k parts: the first and k - 1, the second and k - 2, .., the last and 0.
--   betas l      the beta-numbers of the parts l
--   AsLong l k   k has as many parts as l
use Rattle.std.specs.Prelude.{◌≡◌, Bool, true, false, ◌∷◌, ◌++◌, ◌+ℤ◌}
use Rattle.std.proofs.Math.Path.{refl}
use Rattle.std.proofs.Common.{sym, ◌∙◌, ap, append-nil, append_assoc, length-append}
use Rattle.std.proofs.lemmas.Bool.{false≢true}
use Rattle.std.proofs.Math.Dec.{eqb-suc-zero}
use Rattle.std.proofs.Math.IntN.{+ℤ_assoc}
use Rattle.theory.specs.Basics.{List, [], ℕ, zero, suc, length, replicate, every, sum, ◌=?◌}
use Rattle.theory.specs.Basics.{ℤ, pos, negsuc, neg_ℤ, nat_abs, Each}
use Rattle.theory.proofs.Basics.Laws.{each_map, sum-map, sum_same}
use Rattle.theory.specs.Character.{struck, trimmed}
use Rattle.theory.proofs.Basics.Integers.{swap-back}
use Rattle.theory.proofs.Character.Alternating.{raised_by, Stable}
use Rattle.theory.proofs.Character.Lowered.{lowered, lowered-cons}

abbrev pub betas : List ℤ → List ℤ
betas [] = []
betas (r ∷ rs) = (r +ℤ pos (length rs)) ∷ betas rs

pub length-betas : (l : List ℤ) → length (betas l) ≡ length l
length-betas [] = refl
length-betas (r ∷ rs) = ap suc (length-betas rs)

pub betas-append : (p q : List ℤ) → betas (p ++ q) ≡ raised_by (length q) (betas p) ++ betas q
betas-append [] q = refl
betas-append (a ∷ p) q = rw (length-append p q, betas-append p q, +ℤ_assoc a (pos (length p)) (pos (length q)))

-- ---- a cycle struck
abbrev AsLong : List ℤ → List ℤ → Type 0
AsLong l k = length k ≡ length l

struck-length : (m : ℕ) (l : List ℤ) → Each (AsLong l) (struck m l)
struck-length m [] = tt
struck-length m (r ∷ rs) = (
  refl,
  each_map (AsLong rs) (AsLong (r ∷ rs)) (λ k. r ∷ k) (struck m rs) (λ k e. ap suc e) (struck-length m rs),
)

-- to strike parts is to strike their beta-numbers
pub struck-betas : (f : List ℤ → ℤ) (m : ℕ) (l : List ℤ) → sum (λ k. f (betas k)) (struck m l) ≡ lowered m f (betas l)
struck-betas f m [] = unfold lowered in refl
struck-betas f m (r ∷ rs) = rw (
  lowered-cons m f (r +ℤ pos (length rs)) (betas rs),
  ← (struck-betas (λ t. f ((r +ℤ pos (length rs)) ∷ t)) m rs),
  sum-map (λ k. f (betas k)) (λ k. r ∷ k) (struck m rs),
  sum_same (AsLong rs) (λ k. f (betas (r ∷ k))) (λ k. f ((r +ℤ pos (length rs)) ∷ betas k)) (struck m rs)
      (λ k e. ap (λ n. f ((r +ℤ pos n) ∷ betas k)) e) (struck-length m rs),
  swap-back r (neg_ℤ (pos m)) (pos (length rs)),
)

-- ---- zero parts at the end
pub zeros-behind : (f : List ℤ → ℤ) → Stable f → (l : List ℤ) (z : ℕ)
    → f (betas (l ++ replicate z (pos 0))) ≡ f (betas l)
zeros-behind f st l zero = rw (append-nil l)
zeros-behind f st l (suc z) = rw (← (append_assoc l (pos 0 ∷ []) (replicate z (pos 0))))
    (zeros-behind f st (l ++ (pos 0 ∷ [])) z ∙ ap f (betas-append l (pos 0 ∷ [])) ∙ st (betas l))

all-zeros : (l : List ℤ) → every (λ b. nat_abs b =? 0) l ≡ true → l ≡ replicate (length l) (pos 0)
all-zeros [] e = refl
all-zeros (pos zero ∷ l) e = ap (λ k. pos 0 ∷ k) (all-zeros l e)
all-zeros (pos (suc n) ∷ l) e = absurd (false≢true (rw (eqb-suc-zero n) at e))
all-zeros (negsuc n ∷ l) e = absurd (false≢true (rw (eqb-suc-zero n) at e))

trimmed-zeros : (l : List ℤ) → (z : ℕ) × (l ≡ trimmed l ++ replicate z (pos 0))
trimmed-zeros [] = (0, refl)
trimmed-zeros (a ∷ l) = go (every (λ b. nat_abs b =? 0) (a ∷ l)) refl (trimmed-zeros l)
  where
    go : (t : Bool) → every (λ b. nat_abs b =? 0) (a ∷ l) ≡ t → ((z : ℕ) × (l ≡ trimmed l ++ replicate z (pos 0)))
        → (z : ℕ) × (a ∷ l ≡ trimmed (a ∷ l) ++ replicate z (pos 0))
    go true e rest = (suc (length l), rw e (all-zeros (a ∷ l) e))
    go false e (z, f) = (z, rw e (ap (λ k. a ∷ k) f))

pub trimmed-value : (f : List ℤ → ℤ) → Stable f → (l : List ℤ) → f (betas (trimmed l)) ≡ f (betas l)
trimmed-value f st l =
    let (z, e) = trimmed-zeros l in
    sym (ap (λ k. f (betas k)) e ∙ zeros-behind f st (trimmed l) z)

-- The definition follows the rules; and however they are followed, they keep an alternating function of beta-numbers.
--   Ending l   how parts in order end: in a negative part, or as a shape
use Rattle.std.specs.Prelude.{◌≡◌, refl, ◌∷◌, ◌++◌, ◌+ℤ◌, ◌-ℤ◌}
use Rattle.std.proofs.Common.{sym, ap, subst, append_assoc, zero-add}
use Rattle.std.proofs.Math.IntN.{+ℤ_idr}
use Rattle.theory.specs.Basics.{List, [], ℕ, suc, length, ℤ, pos, negsuc}
use Rattle.theory.specs.Character.{Term, nothing, plus, then, before, value, sink, ordered, rule-1, sorted}
use Rattle.theory.proofs.Basics.Integers.{more-one, less_one}
use Rattle.theory.proofs.Character.Terms.{value-turn, Holds, holds-map, holds-turn, holds_then}
use Rattle.theory.proofs.Character.Terms.{then-then}
use Rattle.theory.proofs.Character.Alternating.{here, Alternating, ZeroBelow, raised_by, swap_at, twice-zero}
use Rattle.theory.proofs.Character.Betas.{betas, betas-append}
use Rattle.theory.specs.Rules.{Descending, in_order, by-rule-1, by-rule-2, by-rule-3, Comes, stopped, moved}
use Rattle.theory.proofs.Rules.InOrder.{InOrder, ordered-descending}
use Rattle.theory.proofs.Rules.Sinking.{sink-comes}

-- ---- the definition follows the rules
ordered-comes : (p l : List ℤ) (g : List ℤ → Term (List ℤ)) → Holds (λ s. Comes (p ++ s) (g s)) (ordered l)
    → Comes (p ++ l) (then g (ordered l))
ordered-comes p [] g h = h
ordered-comes p (a ∷ l) g h = rw (then-then g (sink a) (ordered l)) (simp append_assoc at
    (ordered-comes (p ++ (a ∷ [])) l (λ s. then g (sink a s)) (simp append_assoc
    (holds-map (λ s. Holds Ends (sink a s)) (λ s. Comes (p ++ (a ∷ s)) (then g (sink a s))) (ordered l)
    (λ s k. sink-comes p a s g k) (rw (holds_then Ends (sink a) (ordered l)) at h)))))
  where
    Ends : List ℤ → Type 0
    Ends u = Comes (p ++ u) (g u)

data Ending (l : List ℤ) : Type 0 where
  below : (p : List ℤ) (n : ℕ) → l ≡ p ++ (negsuc n ∷ []) → rule-1 l ≡ nothing → Ending l
  shape : InOrder l → rule-1 l ≡ plus l → Ending l

ending : (l : List ℤ) → Descending l → Ending l
ending [] d = shape tt refl
ending (pos n ∷ []) d = shape ((n, ap pos (sym (zero-add n))), tt) refl
ending (negsuc n ∷ []) d = below [] n refl refl
ending (a ∷ b ∷ l) d = longer (ending (b ∷ l) d.1)
  where
    longer : Ending (b ∷ l) → Ending (a ∷ b ∷ l)
    longer (below p n e r) = below (a ∷ p) n (ap (λ s. a ∷ s) e) (ap (before a) r)
    longer (shape o r) = shape (d.0, o) (ap (before a) r)

rule-1-comes : (l : List ℤ) → Descending l → Comes l (rule-1 l)
rule-1-comes l d = go (ending l d)
  where
    go : Ending l → Comes l (rule-1 l)
    go (below p n e r) = rw (r, e) (stopped (by-rule-1 p n (subst Descending e d)))
    go (shape o r) = rw r (stopped (in_order l o))

pub follows : (l : List ℤ) → Comes l (sorted l)
follows l = ordered-comes [] l rule-1
    (holds-map Descending (λ s. Comes s (rule-1 s)) (ordered l) rule-1-comes (ordered-descending l))

-- ---- what the rules keep
pub comes-in-order : {l : List ℤ} {t : Term (List ℤ)} → Comes l t → Holds InOrder t
comes-in-order (stopped (in_order l o)) = o
comes-in-order (stopped (by-rule-1 p n d)) = tt
comes-in-order (stopped (by-rule-2 p a q)) = tt
comes-in-order (moved {t = t} m r) = rw (holds-turn InOrder t) (comes-in-order r)

-- rule 1 finds a negative beta-number, rule 2 two alike, and rule 3 swaps two neighbours
module _ (f : List ℤ → ℤ) (alternating : Alternating f) (below : ZeroBelow f) where
  pub comes-value : {l : List ℤ} {t : Term (List ℤ)} → Comes l t → value (λ s. f (betas s)) t ≡ f (betas l)
  comes-value (stopped (in_order l o)) = refl
  comes-value (stopped (by-rule-1 p n d)) = sym (rw (betas-append p (negsuc n ∷ []), +ℤ_idr (negsuc n))
      (below (raised_by 1 (betas p)) n []))
  comes-value (stopped (by-rule-2 p a q)) = sym (rw (betas-append p (a ∷ (a +ℤ pos 1) ∷ q), more-one a (length q))
      (twice-zero f alternating (raised_by (suc (suc (length q))) (betas p)) (a +ℤ pos (suc (length q))) (betas q)))
  comes-value (moved {t = t} (by-rule-3 p a b q n e) r) =
      rw (
        value-turn (λ s. f (betas s)) t,
        comes-value r,
        betas-append p (a ∷ b ∷ q),
        betas-append p ((b -ℤ pos 1) ∷ (a +ℤ pos 1) ∷ q),
        less_one b (length q),
        more-one a (length q),
      )
      (sym (alternating _ _ (swap_at (raised_by (suc (suc (length q))) (betas p))
      (here (b +ℤ pos (length q)) (a +ℤ pos (suc (length q))) (betas q)))))

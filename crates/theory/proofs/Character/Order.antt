-- The character is what the class counts at the beta-numbers; so it depends neither on the order in which the rules are
-- followed nor on that of the cycles (document 01, "The character", first paragraph).
use Rattle.std.specs.Prelude.{◌≡◌, refl, ◌∷◌}
use Rattle.std.proofs.Common.{sym, ◌∙◌, ap}
use Rattle.std.proofs.Math.Path.{fun_ext}
use Rattle.theory.specs.Basics.{true, List, [], map, ℕ, suc, sum, ℤ, pos}
use Rattle.theory.specs.Partition.{Parts, is_partition, degree, times}
use Rattle.theory.specs.Partition.Laws.{NoZero, none, some}
use Rattle.theory.proofs.Partition.Laws.{no_zero, no-degree}
use Rattle.theory.specs.Character.{Term, value, struck, sorted, trimmed, character, ◌on◌}
use Rattle.theory.proofs.Character.Terms.{value_same}
use Rattle.theory.proofs.Character.Ground.{ground-none, ground-above}
use Rattle.theory.proofs.Character.Counted.{counted, counted-alternating, counted-zero-below, counted-stable}
use Rattle.theory.proofs.Character.Counted.{counted-order}
use Rattle.theory.proofs.Character.Betas.{betas, length-betas, struck-betas, trimmed-value}
use Rattle.theory.specs.Rules.{Comes}
use Rattle.theory.proofs.Rules.InOrder.{InOrder, PositiveFirst, trimmed-positive}
use Rattle.theory.proofs.Rules.Laws.{follows, comes-in-order, comes-value}

-- what a list counts that comes to t, given that the character is counted at beta-numbers
comes-counted : (c : Parts) → NoZero c → ((s : List ℤ) → PositiveFirst s → character c s ≡ counted c (betas s))
    → (l : List ℤ) (t : Term (List ℤ)) → Comes l t → value (λ s. character c (trimmed s)) t ≡ counted c (betas l)
comes-counted c k agrees l t r =
    value_same InOrder (λ s. character c (trimmed s)) (λ s. counted c (betas s)) t
    (λ s o. agrees (trimmed s) (trimmed-positive s o) ∙ trimmed-value (counted c) (counted-stable c k) s)
    (comes-in-order r)
    ∙ comes-value (counted c) (counted-alternating c) (counted-zero-below c) r

pub character-counted : (c : Parts) → NoZero c → (s : List ℤ) → PositiveFirst s → character c s ≡ counted c (betas s)
unfolding character
character-counted c none [] h = sym ground-none
character-counted c none (r ∷ rs) (n, e) =
    rw (e, ← (length-betas rs)) (sym (ground-above n (betas rs)))
character-counted c (some {p = m} {ps = ms} k) s h =
    ap (λ f. sum f (struck (suc m) s))
    (fun_ext (λ l. comes-counted ms k (character-counted ms k) l (sorted l) (follows l)))
    ∙ struck-betas (counted ms) (suc m) s

pub counts_same : (c : Parts) → NoZero c → (l : List ℤ) (t : Term (List ℤ)) → Comes l t
    → value (λ s. character c (trimmed s)) t ≡ value (λ s. character c (trimmed s)) (sorted l)
counts_same c k l t r =
    comes-counted c k (character-counted c k) l t r
    ∙ sym (comes-counted c k (character-counted c k) l (sorted l) (follows l))

pub positive-first : {ps : Parts} → NoZero ps → PositiveFirst (map pos ps)
positive-first none = tt
positive-first (some {p = p} k) = (p, refl)

pub any_order : (s c d : Parts) → is_partition s ≡ true → NoZero c → NoZero d → ((m : ℕ) → times m c ≡ times m d)
    → s on c ≡ s on d
any_order s c d e kc kd same =
    character-counted c kc (map pos s) (positive-first (no_zero s e))
    ∙ ap (λ f. f (betas (map pos s))) (counted-order c d same)
    ∙ sym (character-counted d kd (map pos s) (positive-first (no_zero s e)))

-- ---- empty shape on empty class is 1, and no other partitions have the degree 0
pub empty-on-empty : (s c : Parts) → is_partition s ≡ true → is_partition c ≡ true → degree s ≡ 0 → degree c ≡ 0
    → s on c ≡ pos 1
unfolding character
empty-on-empty s c p q d e = rw (no-degree s p d, no-degree c q e)

-- The beta-numbers of the empty shape, in any order: a function with the three properties of Alternating.antt.
--   Factor        1, -1 or 0; s · t, their product; whole s, as a whole number
--   products      a set for simp: products are bracketed to the right and sorted
--   sign x        the sign of x
--   below k n     1 if n is below k, and 0 if not; within k x, 1 if x is one of 0, .., k - 1, and 0 if not
--   past x l      the product of the signs of x - y over the entries y of l
--   weigh k l     the sign of the order of l, and 0 if an entry occurs twice or is not within k
--   ground l      1 or -1 if l is 0, .., k - 1 in some order, where k is how many, and 0 if not
use Rattle.std.specs.Prelude.{◌≡◌, refl, ◌≤◌, ◌∷◌, ◌++◌, ◌+◌, ◌+ℤ◌, ◌-ℤ◌}
use Rattle.std.proofs.Common.{sym, ◌∙◌, ap, arith}
use Rattle.std.proofs.Math.IntN.{suc_ℤ, +ℤ_one, +ℤ_idr}
use Rattle.theory.specs.Basics.{List, [], ℕ, zero, suc, length}
use Rattle.theory.specs.Basics.{ℤ, pos, negsuc, neg_ℤ}
use Rattle.theory.proofs.Basics.Integers.{difference-back, difference-one-more}
use Rattle.theory.proofs.Character.Alternating.{Swap, here, later, Alternating, ZeroBelow, raised, Stable}

-- ---- factors
data Factor : Type 0 where
  one minus_one none : Factor

infixr 50 ◌·◌
abbrev ◌·◌ : Factor → Factor → Factor
one · t = t
none · t = none
minus_one · one = minus_one
minus_one · minus_one = one
minus_one · none = none

·-comm : (s t : Factor) → s · t ≡ t · s
·-comm one one = refl
·-comm one minus_one = refl
·-comm one none = refl
·-comm minus_one one = refl
·-comm minus_one minus_one = refl
·-comm minus_one none = refl
·-comm none one = refl
·-comm none minus_one = refl
·-comm none none = refl

·-assoc : (r s t : Factor) → (r · s) · t ≡ r · s · t
·-assoc one s t = refl
·-assoc none s t = refl
·-assoc minus_one one t = refl
·-assoc minus_one none t = refl
·-assoc minus_one minus_one one = refl
·-assoc minus_one minus_one minus_one = refl
·-assoc minus_one minus_one none = refl

·-swap : (r s t : Factor) → r · s · t ≡ s · r · t
·-swap r s t = sym (·-assoc r s t) ∙ ap (λ u. u · t) (·-comm r s) ∙ ·-assoc s r t

ruleset products = (·-assoc, ·-comm, ·-swap)

factors-exchanged : (a b s p q w : Factor) → b · ((minus_one · s) · q) · a · p · w ≡ minus_one · a · (s · p) · b · q · w
factors-exchanged a b s p q w = simp products

turned : (a p w : Factor) → a · p · minus_one · w ≡ minus_one · a · p · w
turned a p w = simp products

regrouped : (a s p w : Factor) → a · (s · p) · w ≡ (a · s) · p · w
regrouped a s p w = simp products

abbrev whole : Factor → ℤ
whole one = pos 1
whole minus_one = negsuc 0
whole none = pos 0

whole-turned : (s : Factor) → whole (minus_one · s) ≡ neg_ℤ (whole s)
whole-turned one = refl
whole-turned minus_one = refl
whole-turned none = refl

-- ---- the sign of an order
abbrev sign : ℤ → Factor
sign (pos zero) = none
sign (pos (suc n)) = one
sign (negsuc n) = minus_one

sign-turned : (x : ℤ) → sign (neg_ℤ x) ≡ minus_one · sign x
sign-turned (pos zero) = refl
sign-turned (pos (suc n)) = refl
sign-turned (negsuc n) = refl

abbrev below : ℕ → ℕ → Factor
below zero n = none
below (suc k) zero = one
below (suc k) (suc n) = below k n

abbrev within : ℕ → ℤ → Factor
within k (pos n) = below k n
within k (negsuc n) = none

unfoldable past : ℤ → List ℤ → Factor
past x [] = one
past x (y ∷ ys) = sign (x -ℤ y) · past x ys

unfoldable weigh : ℕ → List ℤ → Factor
weigh k [] = one
weigh k (x ∷ xs) = within k x · past x xs · weigh k xs

pub ground : List ℤ → ℤ
ground l = whole (weigh (length l) l)

-- ---- a swap turns the sign
past-swap : (x : ℤ) (l k : List ℤ) → Swap l k → past x k ≡ past x l
unfolding past
past-swap x l k (here y z t) = ·-swap (sign (x -ℤ z)) (sign (x -ℤ y)) (past x t)
past-swap x l k (later y {l = l₁} {k = k₁} s) = ap (λ t. sign (x -ℤ y) · t) (past-swap x l₁ k₁ s)

weigh-swap : (n : ℕ) (l k : List ℤ) → Swap l k → weigh n k ≡ minus_one · weigh n l
unfolding weigh past
weigh-swap n l k (here x y t) = rw (← (difference-back x y), sign-turned (x -ℤ y))
    (factors-exchanged (within n x) (within n y) (sign (x -ℤ y)) (past x t) (past y t) (weigh n t))
weigh-swap n l k (later x {l = l₁} {k = k₁} s) = rw (past-swap x l₁ k₁ s, weigh-swap n l₁ k₁ s)
    (turned (within n x) (past x l₁) (weigh n l₁))

length-swap : (l k : List ℤ) → Swap l k → length k ≡ length l
length-swap l k (here x y t) = refl
length-swap l k (later x {l = l₁} {k = k₁} s) = ap suc (length-swap l₁ k₁ s)

pub ground-alternating : Alternating ground
unfolding ground
ground-alternating l k s =
    rw (length-swap l k s, weigh-swap (length l) l k s) (whole-turned (weigh (length l) l))

-- ---- a negative entry
weigh-below : (k : ℕ) (p : List ℤ) (n : ℕ) (q : List ℤ) → weigh k (p ++ (negsuc n ∷ q)) ≡ none
unfolding weigh
weigh-below k [] n q = refl
weigh-below k (x ∷ p) n q = rw (weigh-below k p n q) (simp products)

pub ground-zero-below : ZeroBelow ground
unfolding ground
ground-zero-below p n q = ap whole (weigh-below (length (p ++ (negsuc n ∷ q))) p n q)

-- ---- every entry raised, and a zero behind
length-raised : (l : List ℤ) → length (raised l) ≡ suc (length l)
length-raised [] = refl
length-raised (x ∷ xs) = ap suc (length-raised xs)

past-raised : (x : ℤ) (l : List ℤ) → past (x +ℤ pos 1) (raised l) ≡ sign (x +ℤ pos 1) · past x l
unfolding past
past-raised x [] = rw (+ℤ_idr (x +ℤ pos 1))
past-raised x (y ∷ ys) = rw (difference-one-more x y, past-raised x ys)
    (·-swap (sign (x -ℤ y)) (sign (x +ℤ pos 1)) (past x ys))

within-raised : (k : ℕ) (x : ℤ) → within (suc k) (x +ℤ pos 1) · sign (x +ℤ pos 1) ≡ within k x
within-raised k x = rw (+ℤ_one x) (go x)
  where
    go : (x : ℤ) → within (suc k) (suc_ℤ x) · sign (suc_ℤ x) ≡ within k x
    go (pos n) = ·-comm (below k n) one
    go (negsuc zero) = refl
    go (negsuc (suc n)) = refl

weigh-raised : (k : ℕ) (l : List ℤ) → weigh (suc k) (raised l) ≡ weigh k l
unfolding weigh past
weigh-raised k [] = refl
weigh-raised k (x ∷ xs) = rw (weigh-raised k xs, past-raised x xs, ← (within-raised k x))
    (regrouped (within (suc k) (x +ℤ pos 1)) (sign (x +ℤ pos 1)) (past x xs) (weigh k xs))

pub ground-stable : Stable ground
unfolding ground
ground-stable l = rw (length-raised l) (ap whole (weigh-raised (length l) l))

-- ---- the empty shape, and any other
pub ground-none : ground [] ≡ pos 1
unfolding ground weigh
ground-none = refl

below_none : (k n : ℕ) → k ≤ n → below k n ≡ none
below_none zero n h = refl
below_none (suc k) zero h = absurd (omega arith)
below_none (suc k) (suc n) h = below_none k n (omega arith)

pub ground-above : (n : ℕ) (l : List ℤ) → ground (pos (suc n + length l) ∷ l) ≡ pos 0
unfolding ground weigh
ground-above n l = rw (below_none (suc (length l)) (suc n + length l) (omega arith)) refl

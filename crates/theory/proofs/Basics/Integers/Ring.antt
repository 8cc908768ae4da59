-- Equations between sums and products of whole numbers, decided: `ring numbers l r refl` shows that the expressions l
-- and r are equal, where variable i is element i of the numbers, if all coefficients of l - r, multiplied out, are 0.
--   Expr         an expression: a variable, a number, a sum, a product, an opposite; a ⊝ b is the sum of a and ⊖ b
--   eval         the number that an expression is
--   Poly         a sum of products, each a coefficient times variables in order; normal e, the expression e as one
--   all_zero p    every coefficient is 0
use Rattle.std.specs.Prelude.{◌≡◌, refl, ◌&&◌, ◌∷◌, ◌+ℤ◌, ◌*ℤ◌}
use Rattle.std.proofs.Common.{sym, ◌∙◌, ap, ap₂}
use Rattle.std.proofs.lemmas.Bool.{false≢true}
use Rattle.std.proofs.Math.IntN.{+ℤ_assoc, +ℤ_idl, +ℤ_idr, zero-*ℤ, *ℤ-zero, -ℤ-+ℤ_cancel}
use Rattle.theory.specs.Basics.{Bool, true, false, cond, List, [], get_or, ℕ, zero, suc, ◌<?◌, same}
use Rattle.theory.specs.Basics.{ℤ, pos, negsuc, neg_ℤ}
use Rattle.theory.proofs.Basics.Laws.{both, same_lists}
use Rattle.theory.specs.Basics.Integers.{swap-front}
use Rattle.theory.proofs.Basics.Integers.Products.{sum-times, times-sum, neg-times, times-one, one-times}
use Rattle.theory.proofs.Basics.Integers.Products.{times-assoc, times-swap}

-- ---- expressions
infixl 60 ◌⊕◌
infixl 60 ◌⊝◌
infixl 70 ◌⊗◌
pub data Expr : Type 0 where
  var : ℕ → Expr
  num : ℤ → Expr
  ◌⊕◌ : Expr → Expr → Expr
  ◌⊗◌ : Expr → Expr → Expr
  ⊖ : Expr → Expr

abbrev pub ◌⊝◌ : Expr → Expr → Expr
a ⊝ b = a ⊕ ⊖ b

abbrev pub eval : List ℤ → Expr → ℤ
eval numbers (var i) = get_or numbers i (pos 0)
eval numbers (num c) = c
eval numbers (a ⊕ b) = eval numbers a +ℤ eval numbers b
eval numbers (a ⊗ b) = eval numbers a *ℤ eval numbers b
eval numbers (⊖ a) = neg_ℤ (eval numbers a)

-- ---- multiplied out
pub data Poly : Type 0 where
  none : Poly
  term : ℤ → List ℕ → Poly → Poly

abbrev pub insert : ℕ → List ℕ → List ℕ
insert i [] = i ∷ []
insert i (j ∷ m) = cond (j <? i) (j ∷ insert i m) (i ∷ j ∷ m)

abbrev pub merge : List ℕ → List ℕ → List ℕ
merge [] m = m
merge (i ∷ l) m = insert i (merge l m)

abbrev pub add_term : ℤ → List ℕ → Poly → Poly
add_term c m none = term c m none
add_term c m (term d n p) = cond (same m n) (term (c +ℤ d) n p) (term d n (add_term c m p))

abbrev pub add_poly : Poly → Poly → Poly
add_poly none q = q
add_poly (term c m p) q = add_term c m (add_poly p q)

abbrev pub scale : ℤ → List ℕ → Poly → Poly
scale c m none = none
scale c m (term d n p) = term (c *ℤ d) (merge m n) (scale c m p)

abbrev pub times_poly : Poly → Poly → Poly
times_poly none q = none
times_poly (term c m p) q = add_poly (scale c m q) (times_poly p q)

abbrev pub normal : Expr → Poly
normal (var i) = term (pos 1) (i ∷ []) none
normal (num c) = term c [] none
normal (a ⊕ b) = add_poly (normal a) (normal b)
normal (a ⊗ b) = times_poly (normal a) (normal b)
normal (⊖ a) = scale (negsuc 0) [] (normal a)

abbrev pub is_zero : ℤ → Bool
is_zero (pos zero) = true
is_zero (pos (suc n)) = false
is_zero (negsuc n) = false

abbrev pub all_zero : Poly → Bool
all_zero none = true
all_zero (term c m p) = is_zero c && all_zero p

-- ---- each step keeps the number
module _ (numbers : List ℤ) where
  abbrev number : ℕ → ℤ
  number i = get_or numbers i (pos 0)

  abbrev power : List ℕ → ℤ
  power [] = pos 1
  power (i ∷ m) = number i *ℤ power m

  abbrev poly : Poly → ℤ
  poly none = pos 0
  poly (term c m p) = c *ℤ power m +ℤ poly p

  insert-power : (i : ℕ) (m : List ℕ) → power (insert i m) ≡ number i *ℤ power m
  insert-power i [] = refl
  insert-power i (j ∷ m) = go (j <? i) (insert-power i m)
    where
      go : (b : Bool) → power (insert i m) ≡ number i *ℤ power m
          → power (cond b (j ∷ insert i m) (i ∷ j ∷ m)) ≡ number i *ℤ power (j ∷ m)
      go true h = ap (λ x. number j *ℤ x) h ∙ times-swap (number j) (number i) (power m)
      go false h = refl

  merge-power : (l m : List ℕ) → power (merge l m) ≡ power l *ℤ power m
  merge-power [] m = sym (one-times (power m))
  merge-power (i ∷ l) m =
      insert-power i (merge l m) ∙ ap (λ x. number i *ℤ x) (merge-power l m)
      ∙ sym (times-assoc (number i) (power l) (power m))

  add_term_lem : (c : ℤ) (m : List ℕ) (p : Poly) → poly (add_term c m p) ≡ c *ℤ power m +ℤ poly p
  add_term_lem c m none = refl
  add_term_lem c m (term d n p) = go (same m n) refl (add_term_lem c m p)
    where
      go : (b : Bool) → same m n ≡ b → poly (add_term c m p) ≡ c *ℤ power m +ℤ poly p
          → poly (cond b (term (c +ℤ d) n p) (term d n (add_term c m p))) ≡ c *ℤ power m +ℤ (d *ℤ power n +ℤ poly p)
      go true e h =
          ap (λ x. x +ℤ poly p) (sum-times c d (power n)) ∙ +ℤ_assoc (c *ℤ power n) (d *ℤ power n) (poly p)
          ∙ ap (λ l. c *ℤ power l +ℤ (d *ℤ power n +ℤ poly p)) (sym (same_lists m n e))
      go false e h = ap (λ x. d *ℤ power n +ℤ x) h ∙ swap-front (d *ℤ power n) (c *ℤ power m) (poly p)

  add-poly : (p q : Poly) → poly (add_poly p q) ≡ poly p +ℤ poly q
  add-poly none q = sym (+ℤ_idl (poly q))
  add-poly (term c m p) q =
      add_term_lem c m (add_poly p q) ∙ ap (λ x. c *ℤ power m +ℤ x) (add-poly p q)
      ∙ sym (+ℤ_assoc (c *ℤ power m) (poly p) (poly q))

  times-four : (a b c d : ℤ) → (a *ℤ b) *ℤ (c *ℤ d) ≡ (a *ℤ c) *ℤ (b *ℤ d)
  times-four a b c d =
      times-assoc a b (c *ℤ d) ∙ ap (λ x. a *ℤ x) (times-swap b c d) ∙ sym (times-assoc a c (b *ℤ d))

  scale-poly : (c : ℤ) (m : List ℕ) (p : Poly) → poly (scale c m p) ≡ (c *ℤ power m) *ℤ poly p
  scale-poly c m none = sym (*ℤ-zero (c *ℤ power m))
  scale-poly c m (term d n p) =
      ap₂ ◌+ℤ◌ (ap (λ x. c *ℤ d *ℤ x) (merge-power m n) ∙ times-four c d (power m) (power n)) (scale-poly c m p)
      ∙ sym (times-sum (c *ℤ power m) (d *ℤ power n) (poly p))

  times-poly : (p q : Poly) → poly (times_poly p q) ≡ poly p *ℤ poly q
  times-poly none q = sym (zero-*ℤ (poly q))
  times-poly (term c m p) q =
      add-poly (scale c m q) (times_poly p q) ∙ ap₂ ◌+ℤ◌ (scale-poly c m q) (times-poly p q)
      ∙ sym (sum-times (c *ℤ power m) (poly p) (poly q))

  normal-is : (e : Expr) → poly (normal e) ≡ eval numbers e
  normal-is (var i) =
      +ℤ_idr (pos 1 *ℤ (number i *ℤ pos 1)) ∙ one-times (number i *ℤ pos 1) ∙ times-one (number i)
  normal-is (num c) = +ℤ_idr (c *ℤ pos 1) ∙ times-one c
  normal-is (a ⊕ b) = add-poly (normal a) (normal b) ∙ ap₂ ◌+ℤ◌ (normal-is a) (normal-is b)
  normal-is (a ⊗ b) = times-poly (normal a) (normal b) ∙ ap₂ ◌*ℤ◌ (normal-is a) (normal-is b)
  normal-is (⊖ a) =
      scale-poly (negsuc 0) [] (normal a) ∙ neg-times (pos 1) (poly (normal a))
      ∙ ap neg_ℤ (one-times (poly (normal a)) ∙ normal-is a)

  all-zero : (p : Poly) → all_zero p ≡ true → poly p ≡ pos 0
  all-zero none e = refl
  all-zero (term c m p) e = let h = both (is_zero c) (all_zero p) e in go c h.0 (all-zero p h.1)
    where
      go : (c : ℤ) → is_zero c ≡ true → poly p ≡ pos 0 → c *ℤ power m +ℤ poly p ≡ pos 0
      go (pos zero) z h = ap (λ x. x +ℤ poly p) (zero-*ℤ (power m)) ∙ +ℤ_idl (poly p) ∙ h
      go (pos (suc n)) z h = absurd (false≢true z)
      go (negsuc n) z h = absurd (false≢true z)

  pub ring : (l r : Expr) → all_zero (normal (l ⊝ r)) ≡ true → eval numbers l ≡ eval numbers r
  ring l r e =
      sym (-ℤ-+ℤ_cancel (eval numbers l) (eval numbers r))
      ∙ ap (λ x. x +ℤ eval numbers r) (sym (normal-is (l ⊝ r)) ∙ all-zero (normal (l ⊝ r)) e)
      ∙ +ℤ_idl (eval numbers r)

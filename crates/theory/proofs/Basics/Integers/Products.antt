-- Products of whole numbers: with sums, with signs, and their sizes.
use Rattle.std.specs.Prelude.{◌≡◌, refl, ◌∷◌, ◌*◌, ◌+ℤ◌, ◌-ℤ◌, ◌*ℤ◌}
use Rattle.std.proofs.Common.{sym, ◌∙◌, ap, ap₂, mul-one}
use Rattle.std.proofs.Math.IntN.{suc_ℤ, pred_ℤ, +ℤ_idl, +ℤ_invl, suc_ℤ-+ℤ, pred_ℤ-+ℤ, suc_ℤ-*ℤ, pred_ℤ-*ℤ, zero-*ℤ, *ℤ-zero, *ℤ_comm, +ℤ-neg_ℤ_cancel}
use Rattle.theory.specs.Basics.{Bool, true, false, List, [], ℕ, zero, suc, ℤ, pos, negsuc}
use Rattle.theory.specs.Basics.{neg_ℤ, nat_abs, sum, signed}
use Rattle.theory.proofs.Basics.Integers.{swap-back}

-- ---- sums
sum-times-suc : (a b c : ℤ) → (a +ℤ b) *ℤ c ≡ a *ℤ c +ℤ b *ℤ c → (suc_ℤ a +ℤ b) *ℤ c ≡ suc_ℤ a *ℤ c +ℤ b *ℤ c
sum-times-suc a b c h =
    ap (λ x. x *ℤ c) (suc_ℤ-+ℤ a b) ∙ suc_ℤ-*ℤ (a +ℤ b) c ∙ ap (λ x. x +ℤ c) h ∙ swap-back (a *ℤ c) (b *ℤ c) c
    ∙ ap (λ x. x +ℤ b *ℤ c) (sym (suc_ℤ-*ℤ a c))

sum-times-pred : (a b c : ℤ) → (a +ℤ b) *ℤ c ≡ a *ℤ c +ℤ b *ℤ c → (pred_ℤ a +ℤ b) *ℤ c ≡ pred_ℤ a *ℤ c +ℤ b *ℤ c
sum-times-pred a b c h =
    ap (λ x. x *ℤ c) (pred_ℤ-+ℤ a b) ∙ pred_ℤ-*ℤ (a +ℤ b) c ∙ ap (λ x. x -ℤ c) h
    ∙ swap-back (a *ℤ c) (b *ℤ c) (neg_ℤ c) ∙ ap (λ x. x +ℤ b *ℤ c) (sym (pred_ℤ-*ℤ a c))

sum-times-zero : (b c : ℤ) → (pos 0 +ℤ b) *ℤ c ≡ pos 0 *ℤ c +ℤ b *ℤ c
sum-times-zero b c = ap (λ x. x *ℤ c) (+ℤ_idl b) ∙ sym (ap (λ x. x +ℤ b *ℤ c) (zero-*ℤ c) ∙ +ℤ_idl (b *ℤ c))

pub sum-times : (a b c : ℤ) → (a +ℤ b) *ℤ c ≡ a *ℤ c +ℤ b *ℤ c
sum-times (pos zero) b c = sum-times-zero b c
sum-times (pos (suc n)) b c = sum-times-suc (pos n) b c (sum-times (pos n) b c)
sum-times (negsuc zero) b c = sum-times-pred (pos 0) b c (sum-times-zero b c)
sum-times (negsuc (suc n)) b c = sum-times-pred (negsuc n) b c (sum-times (negsuc n) b c)

pub times-sum : (a b c : ℤ) → a *ℤ (b +ℤ c) ≡ a *ℤ b +ℤ a *ℤ c
times-sum a b c = *ℤ_comm a (b +ℤ c) ∙ sum-times b c a ∙ ap₂ ◌+ℤ◌ (*ℤ_comm b a) (*ℤ_comm c a)

pub times-sums : {A : Type 0} (a : ℤ) (f : A → ℤ) (xs : List A) → a *ℤ sum f xs ≡ sum (λ x. a *ℤ f x) xs
times-sums a f [] = *ℤ-zero a
times-sums a f (x ∷ xs) = times-sum a (f x) (sum f xs) ∙ ap (λ z. a *ℤ f x +ℤ z) (times-sums a f xs)

-- ---- signs
pub neg-times : (a c : ℤ) → neg_ℤ a *ℤ c ≡ neg_ℤ (a *ℤ c)
neg-times a c =
    let none : neg_ℤ a *ℤ c +ℤ a *ℤ c ≡ pos 0 =
    sym (sum-times (neg_ℤ a) a c) ∙ ap (λ x. x *ℤ c) (+ℤ_invl a) ∙ zero-*ℤ c in
    sym (+ℤ-neg_ℤ_cancel (neg_ℤ a *ℤ c) (a *ℤ c)) ∙ ap (λ z. z -ℤ a *ℤ c) none ∙ +ℤ_idl (neg_ℤ (a *ℤ c))

-- a sign goes from one factor to the other
pub times-signed : (minus : Bool) (a b : ℤ) → a *ℤ signed minus b ≡ signed minus a *ℤ b
times-signed true a b =
    *ℤ_comm a (neg_ℤ b) ∙ neg-times b a ∙ ap neg_ℤ (*ℤ_comm b a) ∙ sym (neg-times a b)
times-signed false a b = refl

pub signed-times : (minus : Bool) (a b : ℤ) → signed minus a *ℤ b ≡ signed minus (a *ℤ b)
signed-times true a b = neg-times a b
signed-times false a b = refl

pub times-one : (a : ℤ) → a *ℤ pos 1 ≡ a
times-one (pos n) = ap pos (mul-one n)
times-one (negsuc n) = ap (λ (k : ℕ). neg_ℤ (pos k)) (mul-one (suc n))

pub one-times : (a : ℤ) → pos 1 *ℤ a ≡ a
one-times a = *ℤ_comm (pos 1) a ∙ times-one a

-- ---- three factors
times-assoc-next : (a b c : ℤ) → a *ℤ b *ℤ c ≡ a *ℤ (b *ℤ c) → suc_ℤ a *ℤ b *ℤ c ≡ suc_ℤ a *ℤ (b *ℤ c)
times-assoc-next a b c h =
    ap (λ x. x *ℤ c) (suc_ℤ-*ℤ a b) ∙ sum-times (a *ℤ b) b c ∙ ap (λ x. x +ℤ b *ℤ c) h ∙ sym (suc_ℤ-*ℤ a (b *ℤ c))

times-assoc-from-zero : (n : ℕ) (b c : ℤ) → pos n *ℤ b *ℤ c ≡ pos n *ℤ (b *ℤ c)
times-assoc-from-zero zero b c = ap (λ x. x *ℤ c) (zero-*ℤ b) ∙ zero-*ℤ c ∙ sym (zero-*ℤ (b *ℤ c))
times-assoc-from-zero (suc n) b c = times-assoc-next (pos n) b c (times-assoc-from-zero n b c)

pub times-assoc : (a b c : ℤ) → a *ℤ b *ℤ c ≡ a *ℤ (b *ℤ c)
times-assoc (pos n) b c = times-assoc-from-zero n b c
times-assoc (negsuc n) b c =
    ap (λ x. x *ℤ c) (neg-times (pos (suc n)) b) ∙ neg-times (pos (suc n) *ℤ b) c
    ∙ ap neg_ℤ (times-assoc-from-zero (suc n) b c) ∙ sym (neg-times (pos (suc n)) (b *ℤ c))

pub times-swap : (a b c : ℤ) → a *ℤ (b *ℤ c) ≡ b *ℤ (a *ℤ c)
times-swap a b c = sym (times-assoc a b c) ∙ ap (λ x. x *ℤ c) (*ℤ_comm a b) ∙ times-assoc b a c

-- ---- sizes
abs-opposite : (n : ℕ) → nat_abs (neg_ℤ (pos n)) ≡ n
abs-opposite zero = refl
abs-opposite (suc n) = refl

pub abs-times : (a b : ℤ) → nat_abs (a *ℤ b) ≡ nat_abs a * nat_abs b
abs-times (pos m) (pos n) = refl
abs-times (pos m) (negsuc n) = abs-opposite (m * suc n)
abs-times (negsuc m) (pos n) = abs-opposite (suc m * n)
abs-times (negsuc m) (negsuc n) = refl

-- The whole numbers as a group: the laws, beside those of lib.IntN, that characters use.
use Rattle.std.specs.Prelude.{◌≡◌, refl, ◌+◌, ◌+ℤ◌, ◌-ℤ◌}
use Rattle.std.proofs.Common.{sym, ◌∙◌, ap, add-zero, add-suc, arith}
use Rattle.std.proofs.Math.IntN.{+ℤ_assoc, +ℤ_comm, +ℤ_idr, neg_ℤ-+ℤ, neg_ℤ-neg_ℤ, pos-ne-negsuc, -ℤ-+ℤ_cancel, +ℤ-neg_ℤ_cancel}
use Rattle.theory.specs.Basics.{Bool, true, false, not, ℕ, zero, suc, ℤ, pos, negsuc, neg_ℤ}
use Rattle.theory.specs.Basics.{odd, signed}
use Rattle.theory.proofs.Basics.Laws.{odd-suc}
use Rattle.theory.specs.Basics.Integers.{signed-sums}
pub mod Products
pub mod Ring

pub swap-back : (a b c : ℤ) → a +ℤ b +ℤ c ≡ a +ℤ c +ℤ b
swap-back a b c = +ℤ_assoc a b c ∙ ap (λ x. a +ℤ x) (+ℤ_comm b c) ∙ sym (+ℤ_assoc a c b)

-- ---- signs
pub signed-not : (minus : Bool) (z : ℤ) → signed (not minus) z ≡ neg_ℤ (signed minus z)
signed-not true z = sym (neg_ℤ-neg_ℤ z)
signed-not false z = refl

pub signed-zero : (minus : Bool) → signed minus (pos 0) ≡ pos 0
signed-zero true = refl
signed-zero false = refl

pub signed-sum : (minus : Bool) (a b : ℤ) → signed minus (a +ℤ b) ≡ signed minus a +ℤ signed minus b
signed-sum true a b = neg_ℤ-+ℤ a b
signed-sum false a b = refl

-- turned m + n times and then n times, it is turned m times
pub signed_back : (m n : ℕ) (z : ℤ) → signed (odd (m + n)) (signed (odd n) z) ≡ signed (odd m) z
signed_back m zero z = rw (add-zero m)
signed_back m (suc n) z =
    rw (add-suc m n, odd-suc (m + n), odd-suc n) (go (odd (m + n)) (odd n) ∙ signed_back m n z)
  where
    go : (a b : Bool) → signed (not a) (signed (not b) z) ≡ signed a (signed b z)
    go true true = sym (neg_ℤ-neg_ℤ z)
    go true false = refl
    go false true = refl
    go false false = neg_ℤ-neg_ℤ z

pub own-opposite : (x : ℤ) → x ≡ neg_ℤ x → x ≡ pos 0
own-opposite (pos zero) e = refl
own-opposite (pos (suc n)) e = absurd (pos-ne-negsuc (suc n) n e)
own-opposite (negsuc n) e = absurd (pos-ne-negsuc (suc n) n (sym e))

pub difference-back : (x y : ℤ) → neg_ℤ (x -ℤ y) ≡ y -ℤ x
difference-back x y = simp signed-sums

pub negsuc-less : (n m : ℕ) → negsuc n -ℤ pos m ≡ negsuc (n + m)
negsuc-less n zero = +ℤ_idr (negsuc n) ∙ ap negsuc (omega arith)
negsuc-less n (suc m) = ap negsuc (omega arith)

-- ---- one more, one less
pub more-one : (a : ℤ) (n : ℕ) → a +ℤ pos 1 +ℤ pos n ≡ a +ℤ pos (suc n)
more-one a n = +ℤ_assoc a (pos 1) (pos n) ∙ ap (λ k. a +ℤ pos k) (omega arith)

pub less_one : (a : ℤ) (n : ℕ) → a -ℤ pos 1 +ℤ pos (suc n) ≡ a +ℤ pos n
less_one a n = sym (more-one (a -ℤ pos 1) n) ∙ ap (λ x. x +ℤ pos n) (-ℤ-+ℤ_cancel a (pos 1))

pub one-back : (n : ℕ) → pos (suc n) -ℤ pos 1 ≡ pos n
one-back n =
    let e : suc n ≡ n + 1 = omega arith in
    rw e (+ℤ-neg_ℤ_cancel (pos n) (pos 1))

pub difference-one-more : (x y : ℤ) → (x +ℤ pos 1) -ℤ (y +ℤ pos 1) ≡ x -ℤ y
difference-one-more x y =
    ap (λ z. x +ℤ pos 1 +ℤ z) (neg_ℤ-+ℤ y (pos 1)) ∙ ap (λ z. x +ℤ pos 1 +ℤ z) (+ℤ_comm (neg_ℤ y) (negsuc 0))
    ∙ sym (+ℤ_assoc (x +ℤ pos 1) (negsuc 0) (neg_ℤ y)) ∙ ap (λ z. z -ℤ y) (+ℤ-neg_ℤ_cancel x (pos 1))

-- ---- from a difference to a sum
pub from-difference : (a b z : ℤ) → a -ℤ b ≡ z → a ≡ b +ℤ z
from-difference a b z e = sym (-ℤ-+ℤ_cancel a b) ∙ ap (λ x. x +ℤ b) e ∙ +ℤ_comm z b

pub from-below : (a b : ℤ) (n : ℕ) → a -ℤ b ≡ negsuc n → b ≡ a +ℤ pos (suc n)
from-below a b n e = from-difference b a (pos (suc n)) (sym (difference-back a b) ∙ ap neg_ℤ e)

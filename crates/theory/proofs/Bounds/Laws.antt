-- Laws of sizes, and of the bounds: they rise with the degree, and what a line needs, the lines that its hooks leave
-- can share. A line of degree d has k hooks of a length h, k at most d, and each leaves a line of degree d - h.
use Rattle.std.specs.Prelude.{◌≡◌, refl, ◌≤◌, ltb, ◌∷◌, ◌+◌, ◌-◌, ◌*◌, ◌+ℤ◌}
use Rattle.std.proofs.Common.{zero-le, le_refl, le_trans, mul-le-mul, arith}
use Rattle.std.proofs.Math.Decide.{ℕ_discrete}
use Rattle.std.proofs.Math.IntN.{sub_ℕ}
use Rattle.theory.specs.Basics.{Bool, true, false, cond, List, [], length, ℕ, zero, suc, sum}
use Rattle.theory.specs.Basics.{ℤ, pos, negsuc, neg_ℤ, nat_abs, signed, Each}
use Rattle.theory.specs.Bounds.{factorial, S}

-- ---- sizes of sums
abs-difference : (a b : ℕ) → nat_abs (sub_ℕ a (suc b)) ≤ a + suc b
abs-difference a b = either (ltb a (suc b)) (omega arith) (omega arith)
  where
    either : (below : Bool) {x y z : ℕ} → suc x ≤ z → y ≤ z → nat_abs (cond below (negsuc x) (pos y)) ≤ z
    either true h k = h
    either false h k = k

pub abs-add : (a b : ℤ) → nat_abs (a +ℤ b) ≤ nat_abs a + nat_abs b
abs-add (pos a) (pos b) = le_refl (a + b)
abs-add (pos a) (negsuc b) = abs-difference a b
abs-add (negsuc a) (pos b) = omega (arith, abs-difference b a)
abs-add (negsuc a) (negsuc b) = omega arith

pub abs_neg : (a : ℤ) → nat_abs (neg_ℤ a) ≡ nat_abs a
abs_neg (pos zero) = refl
abs_neg (pos (suc a)) = refl
abs_neg (negsuc a) = refl

pub abs-signed : (minus : Bool) (z : ℤ) → nat_abs (signed minus z) ≡ nat_abs z
abs-signed true z = abs_neg z
abs-signed false z = refl

pub abs-sum : {A : Type 0} (bound : ℕ) (f : A → ℤ) (xs : List A) → Each (λ x. nat_abs (f x) ≤ bound) xs
    → nat_abs (sum f xs) ≤ length xs * bound
abs-sum bound f [] e = zero-le
abs-sum bound f (x ∷ xs) e = omega (arith, abs-add (f x) (sum f xs), abs-sum bound f xs e.1, e.0)

-- ---- what rises
module _ (f : ℕ → ℕ) (next : (n : ℕ) → f n ≤ f (suc n)) where
  rises : (m n : ℕ) → m ≤ n → f m ≤ f n
  rises m zero l =
      let e : m ≡ 0 = omega arith in
      rw e (le_refl (f 0))
  rises m (suc n) l = elim (ℕ_discrete m (suc n)) [
    | yes e ↦ rw e (le_refl (f (suc n)))
    | no g ↦ le_trans (rises m n (omega arith)) (next n)
  ]

  share : (k d h : ℕ) → k ≤ suc d → 1 ≤ h → k * f (suc d - h) ≤ suc d * f d
  share k d h few long = mul-le-mul few (rises (suc d - h) d (omega arith))

-- ---- factorials
pub factorial-positive : (n : ℕ) → 1 ≤ factorial n
unfolding factorial
factorial-positive zero = le_refl 1
factorial-positive (suc n) = omega (arith, factorial-positive n)

factorial-next : (n : ℕ) → factorial n ≤ factorial (suc n)
unfolding factorial
factorial-next n = omega arith

pub factorial-rises : (m n : ℕ) → m ≤ n → factorial m ≤ factorial n
factorial-rises = rises factorial factorial-next

pub factorial-share : (k d h : ℕ) → k ≤ d → 1 ≤ h → k * factorial (d - h) ≤ factorial d
unfolding factorial
factorial-share k zero h few long =
    let e : k ≡ 0 = omega arith in
    rw e (omega arith)
factorial-share k (suc d) h few long = share factorial factorial-next k d h few long

-- ---- steps
S-next : (d : ℕ) → S d ≤ S (suc d)
unfolding S
S-next d = omega arith

pub S-rises : (m n : ℕ) → m ≤ n → S m ≤ S n
S-rises = rises S S-next

-- one step, and the steps of the lines that it leaves
pub S-share : (k d h : ℕ) → k ≤ d → 1 ≤ h → 1 ≤ d → 1 + k * S (d - h) ≤ S d
unfolding S
S-share k zero h few long some = absurd (omega arith)
S-share k (suc d) h few long some = omega (arith, share S S-next k d h few long)

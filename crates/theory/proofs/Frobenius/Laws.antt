-- Formula 10 of document 000: the character on (1^n) is Frobenius's quotient, and its division is exact, for every
-- shape.
-- The character counts at the beta-numbers, the l_i: the claim is made of all lists of l that do not rise, and shown by
-- induction on n. To strike a cycle of length 1 makes one number one less; the sums of Spreads close the induction.
--   Claim n        the claim at n, without a division
--   Exact z n d    z is n divided by d, and the division leaves nothing
use Rattle.std.specs.Prelude.{◌≡◌, refl, ◌≤◌, ◌<◌, ◌∷◌, ◌+◌, ◌-◌, ◌*◌, ◌/◌, ◌+ℤ◌, ◌-ℤ◌, ◌*ℤ◌}
use Rattle.std.proofs.Common.{sym, ◌∙◌, ap, ap₂, subst, add-zero, mul-pos, arith}
use Rattle.std.proofs.Math.Nat.{div-eq_of_eq-mul_left}
use Rattle.std.proofs.lemmas.List.{length-map}
use Rattle.std.proofs.Math.IntN.{pos-ne-negsuc, +ℤ_invr, +ℤ-neg_ℤ_cancel, *ℤ-zero, zero-*ℤ, *ℤ_comm}
use Rattle.theory.specs.Basics.{true, List, [], map, length, replicate, ℕ, zero, suc}
use Rattle.theory.specs.Basics.{ℤ, pos, negsuc, neg_ℤ, nat_abs, sum, total, product}
use Rattle.theory.proofs.Basics.Laws.{product-append}
use Rattle.theory.proofs.Basics.Integers.Products.{times-one, one-times}
use Rattle.theory.proofs.Basics.Integers.Ring.{var, ◌⊗◌, ring}
use Rattle.theory.specs.Partition.{Parts, first, is_partition, degree}
use Rattle.theory.proofs.Partition.Laws.{no_zero, front}
use Rattle.theory.proofs.ClassWord.Identity.{ones-no-zero}
use Rattle.theory.specs.Bounds.{factorial}
use Rattle.theory.proofs.Bounds.Laws.{factorial-positive}
use Rattle.theory.specs.Character.{character_degree}
use Rattle.theory.proofs.Character.Alternating.{Alternating, alternating-after, twice-zero, raised}
use Rattle.theory.proofs.Character.Ground.{ground, ground-none, ground-stable}
use Rattle.theory.proofs.Character.Counted.{counted, counted-alternating, counted-zero-below}
use Rattle.theory.proofs.Character.Betas.{betas}
use Rattle.theory.proofs.Character.Order.{positive-first, character-counted}
use Rattle.theory.specs.Frobenius.{l_numbers, differences, frobenius}
use Rattle.theory.proofs.Frobenius.Spreads.{spread, spreads, triangle, over, over-same, over-times}
use Rattle.theory.proofs.Frobenius.Spreads.{lowered-over, weighted-sum}
use Rattle.theory.proofs.Frobenius.Falling.{NoRise, Falls, Twin, twin, beyond, Kind, falls, twins, kind}
use Rattle.theory.proofs.Frobenius.Falling.{no-rise, factorials, Less, below, less, one_less, stair}
use Rattle.theory.proofs.Frobenius.Falling.{falls-stair}

-- ---- two numbers alike
twin-spreads : {ls : List ℕ} → Twin ls → spreads (map pos ls) ≡ pos 0
twin-spreads (twin l ls) = rw (+ℤ_invr (pos l), zero-*ℤ, zero-*ℤ)
twin-spreads (beyond l {ls = ls} t) = rw (twin-spreads t) (*ℤ-zero (spread (pos l) (map pos ls)))

twin-zero : (f : List ℤ → ℤ) → Alternating f → {ls : List ℕ} → Twin ls → f (map pos ls) ≡ pos 0
twin-zero f alternating (twin l ls) = twice-zero f alternating [] (pos l) (map pos ls)
twin-zero f alternating (beyond l t) = twin-zero (λ k. f (pos l ∷ k)) (alternating-after f (pos l) alternating) t

-- ---- nothing left to strike: k - 1, .., 1, 0
raised-stair : (k : ℕ) → raised (map pos (stair k)) ≡ map pos (stair (suc k))
unfolding stair
raised-stair zero = refl
raised-stair (suc k) = ap₂ (λ (a : ℕ) (b : List ℤ). pos a ∷ b) (omega arith) (raised-stair k)

ground-stair : (k : ℕ) → ground (map pos (stair k)) ≡ pos 1
unfolding stair
ground-stair zero = ground-none
ground-stair (suc k) = sym (ap ground (raised-stair k)) ∙ ground-stable (map pos (stair k)) ∙ ground-stair k

-- ((c + k) - (k - 1)) .. ((c + k) - 0) is (c + k)! by c!
spread-stair : (c k : ℕ) → spread (pos (c + k)) (map pos (stair k)) *ℤ pos (factorial c) ≡ pos (factorial (c + k))
unfolding stair factorial
spread-stair c zero = rw (add-zero c) (one-times (pos (factorial c)))
spread-stair c (suc k) =
    let shifted : c + suc k ≡ suc c + k = omega arith in
    let d : ℤ = spread (pos (suc c + k)) (map pos (stair k)) in
    subst (λ n. (pos n -ℤ pos k) *ℤ spread (pos n) (map pos (stair k)) *ℤ pos (factorial c) ≡ pos (factorial n))
    (sym shifted)
    (ap (λ z. z *ℤ d *ℤ pos (factorial c)) (+ℤ-neg_ℤ_cancel (pos (suc c)) (pos k))
    ∙ ring (pos (suc c) ∷ d ∷ pos (factorial c) ∷ []) (var 0 ⊗ var 1 ⊗ var 2) (var 1 ⊗ (var 0 ⊗ var 2)) refl
    ∙ spread-stair (suc c) k)

spreads-stair : (k : ℕ) → spreads (map pos (stair k)) ≡ pos (factorials (stair k))
unfolding stair factorial
spreads-stair zero = refl
spreads-stair (suc k) =
    let plain : 0 + k ≡ k = omega arith in
    ap₂ ◌*ℤ◌ (sym (times-one (spread (pos k) (map pos (stair k)))) ∙ rw plain at (spread-stair 0 k)) (spreads-stair k)

-- ---- the induction
Claim : ℕ → Type 0
Claim n = (ls : List ℕ) → NoRise ls → total ls ≡ n + triangle (length ls)
    → counted (replicate n 1) (map pos ls) *ℤ pos (factorials ls) ≡ pos (factorial n) *ℤ spreads (map pos ls)

claim-twin : (n : ℕ) (ls : List ℕ) → Twin ls
    → counted (replicate n 1) (map pos ls) *ℤ pos (factorials ls) ≡ pos (factorial n) *ℤ spreads (map pos ls)
claim-twin n ls t =
    let c : Parts = replicate n 1 in
    ap (λ z. z *ℤ pos (factorials ls)) (twin-zero (counted c) (counted-alternating c) t) ∙ zero-*ℤ (pos (factorials ls))
    ∙ sym (ap (λ z. pos (factorial n) *ℤ z) (twin-spreads t) ∙ *ℤ-zero (pos (factorial n)))

claim-less : (n : ℕ) → Claim n → (ls : List ℕ) → total ls ≡ suc n + triangle (length ls) → (a : ℤ) (k : List ℤ)
    → Less ls a k → pos (factorials ls) *ℤ counted (replicate n 1) k ≡ pos (factorial n) *ℤ (a *ℤ spreads k)
unfolding Claim
claim-less n claimed ls e a k (below p q z g) =
    ap (λ x. pos (factorials ls) *ℤ x)
    (ap (counted (replicate n 1)) g ∙ counted-zero-below (replicate n 1) p 0 q) ∙ *ℤ-zero (pos (factorials ls))
    ∙ sym (ap (λ x. pos (factorial n) *ℤ (x *ℤ spreads k)) z
    ∙ ap (λ x. pos (factorial n) *ℤ x) (zero-*ℤ (spreads k)) ∙ *ℤ-zero (pos (factorial n)))
claim-less n claimed ls e a k (less m ms z g f t w h s) =
    let size : total ms ≡ n + triangle (length ms) = omega (arith, t, e, ap triangle s) in
    rw (z, g, f)
    (ring (pos (suc m) ∷ pos (factorials ms) ∷ counted (replicate n 1) (map pos ms) ∷ [])
    (var 0 ⊗ var 1 ⊗ var 2) (var 0 ⊗ (var 2 ⊗ var 1)) refl
    ∙ ap (λ x. pos (suc m) *ℤ x) (claimed ms w size)
    ∙ ring (pos (suc m) ∷ pos (factorial n) ∷ spreads (map pos ms) ∷ [])
    (var 0 ⊗ (var 1 ⊗ var 2)) (var 1 ⊗ (var 0 ⊗ var 2)) refl)

sum-total : (ls : List ℕ) → sum (λ z. z) (map pos ls) ≡ pos (total ls)
sum-total [] = refl
sum-total (l ∷ ls) = ap (λ z. pos l +ℤ z) (sum-total ls)

claim-falls : (n : ℕ) → Claim n → (ls : List ℕ) → Falls ls → total ls ≡ suc n + triangle (length ls)
    → counted (replicate (suc n) 1) (map pos ls) *ℤ pos (factorials ls)
    ≡ pos (factorial (suc n)) *ℤ spreads (map pos ls)
unfolding factorial
claim-falls n claimed ls f e =
    let c : List ℤ → ℤ = counted (replicate n 1) in
    ap (λ x. x *ℤ pos (factorials ls)) (lowered-over c (map pos ls))
    ∙ *ℤ_comm (over (λ a k. c k) (map pos ls)) (pos (factorials ls))
    ∙ sym (over-times (pos (factorials ls)) (λ a k. c k) (map pos ls))
    ∙ over-same (λ a k. pos (factorials ls) *ℤ c k) (λ a k. pos (factorial n) *ℤ (a *ℤ spreads k)) (map pos ls)
    (λ a k s. claim-less n claimed ls e a k (one_less ls f s))
    ∙ over-times (pos (factorial n)) (λ a k. a *ℤ spreads k) (map pos ls)
    ∙ ap (λ x. pos (factorial n) *ℤ x) (weighted-sum (map pos ls))
    ∙ ap (λ x. pos (factorial n) *ℤ (x *ℤ spreads (map pos ls))) size
    ∙ ring (pos (suc n) ∷ pos (factorial n) ∷ spreads (map pos ls) ∷ [])
    (var 1 ⊗ (var 0 ⊗ var 2)) (var 0 ⊗ var 1 ⊗ var 2) refl
  where
    size : sum (λ z. z) (map pos ls) -ℤ pos (triangle (length (map pos ls))) ≡ pos (suc n)
    size = ap₂ (λ a (b : ℕ). a -ℤ pos (triangle b)) (sum-total ls ∙ ap pos e) (length-map ls pos)
        ∙ +ℤ-neg_ℤ_cancel (pos (suc n)) (pos (triangle (length ls)))

claim : (n : ℕ) → Claim n
unfolding factorial Claim
claim zero ls w e = go (kind ls w)
  where
    go : Kind ls → ground (map pos ls) *ℤ pos (factorials ls) ≡ pos 1 *ℤ spreads (map pos ls)
    go (twins t) = claim-twin 0 ls t
    go (falls f) = rw (falls-stair ls f (omega (arith, e)))
        (ap₂ ◌*ℤ◌ (ground-stair (length ls)) (sym (spreads-stair (length ls))))
claim (suc n) ls w e = go (kind ls w) (claim n)
  where
    go : Kind ls → Claim n → counted (replicate (suc n) 1) (map pos ls) *ℤ pos (factorials ls)
        ≡ pos (factorial (suc n)) *ℤ spreads (map pos ls)
    go (twins t) claimed = claim-twin (suc n) ls t
    go (falls f) claimed = claim-falls n claimed ls f e

-- ---- the differences, in natural numbers
spread-falls : (l : ℕ) (ls : List ℕ) → NoRise ls → first ls ≤ l
    → spread (pos l) (map pos ls) ≡ pos (product (map (l -◌) ls))
spread-falls l [] w h = refl
spread-falls l (m ∷ ls) w h =
    let back : l ≡ (l - m) + m = omega arith in
    ap₂ ◌*ℤ◌ (ap (λ (n : ℕ). pos n -ℤ pos m) back ∙ +ℤ-neg_ℤ_cancel (pos (l - m)) (pos m))
    (spread-falls l ls w.1 (omega (arith, w.0)))

spreads-falls : (ls : List ℕ) → NoRise ls → spreads (map pos ls) ≡ pos (product (differences ls))
spreads-falls [] w = refl
spreads-falls (l ∷ ls) w = rw (product-append (map (l -◌) ls) (differences ls))
    (ap₂ ◌*ℤ◌ (spread-falls l ls w.1 w.0) (spreads-falls ls w.1))

-- the claim, in natural numbers
pub counted-ones : (n : ℕ) (ls : List ℕ) → NoRise ls → total ls ≡ n + triangle (length ls)
    → counted (replicate n 1) (map pos ls) *ℤ pos (factorials ls) ≡ pos (factorial n * product (differences ls))
unfolding Claim
counted-ones n ls w e = claim n ls w e ∙ ap (λ z. pos (factorial n) *ℤ z) (spreads-falls ls w)

-- ---- a division that leaves nothing
pub factorials-positive : (ls : List ℕ) → 0 < factorials ls
factorials-positive [] = omega arith
factorials-positive (l ∷ ls) = mul-pos (factorial-positive l) (factorials-positive ls)

pub record Exact (z : ℤ) (n d : ℕ) : Type 0 where
  pub divided : z ≡ pos (n / d)
  pub nothing_left : n / d * d ≡ n

pub exact : (z : ℤ) (n d : ℕ) → 0 < d → z *ℤ pos d ≡ pos n → Exact z n d
exact (pos m) n d h e =
    let whole : m * d ≡ n = ap nat_abs e in
    let divided : n / d ≡ m = div-eq_of_eq-mul_left h (sym whole) in
    record { divided = ap pos (sym divided); nothing_left = ap (λ q. q * d) divided ∙ whole }
exact (negsuc m) n d h e = absurd (never (suc m * d) (mul-pos (omega arith) h) e)
  where
    never : (k : ℕ) → 0 < k → neg_ℤ (pos k) ≡ pos n → ⊥
    never zero l f = omega arith
    never (suc k) l f = pos-ne-negsuc n k (sym f)

-- ---- the l of a shape
l-betas : (rs : Parts) → betas (map pos rs) ≡ map pos (l_numbers rs)
l-betas [] = refl
l-betas (r ∷ rs) = ap₂ (λ (n : ℕ) (l : List ℤ). pos (r + n) ∷ l) (length-map rs pos) (l-betas rs)

l-length : (rs : Parts) → length (l_numbers rs) ≡ length rs
l-length [] = refl
l-length (r ∷ rs) = ap suc (l-length rs)

l-total : (rs : Parts) → total (l_numbers rs) ≡ degree rs + triangle (length rs)
l-total [] = refl
l-total (r ∷ rs) = omega (arith, l-total rs)

-- they fall, so that each difference is a positive number
pub l-falls : (rs : Parts) → is_partition rs ≡ true → Falls (l_numbers rs)
l-falls [] p = tt
l-falls (r ∷ []) p = (tt, tt)
l-falls (r ∷ q ∷ rs) p =
    let f = front r (q ∷ rs) p in
    (omega (arith, f.falls), l-falls (q ∷ rs) f.rest)

-- ---- formula 10
formula-exact : (s : Parts) → is_partition s ≡ true
    → Exact (character_degree s) (factorial (degree s) * product (differences (l_numbers s))) (factorials (l_numbers s))
formula-exact s p =
    let n : ℕ = degree s in
    let ls : List ℕ = l_numbers s in
    let w = no-rise ls (l-falls s p) in
    exact (character_degree s) (factorial n * product (differences ls)) (factorials ls) (factorials-positive ls)
    (ap (λ z. z *ℤ pos (factorials ls))
    (character-counted (replicate n 1) (ones-no-zero n) (map pos s) (positive-first (no_zero s p))
    ∙ ap (counted (replicate n 1)) (l-betas s))
    ∙ counted-ones n ls w (l-total s ∙ ap (λ (k : ℕ). n + triangle k) (sym (l-length s))))

pub formula-10 : (s : Parts) → is_partition s ≡ true → character_degree s ≡ pos (frobenius s)
unfolding frobenius
formula-10 s p = (formula-exact s p).divided

pub formula-10-exact : (s : Parts) → is_partition s ≡ true
    → frobenius s * product (map factorial (l_numbers s)) ≡ factorial (degree s) * product (differences (l_numbers s))
unfolding frobenius
formula-10-exact s p = (formula-exact s p).nothing_left

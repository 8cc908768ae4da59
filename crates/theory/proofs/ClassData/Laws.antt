-- Laws of what a class tells: its sign and its divisor can be told by one reading of the parts, longest first.
--   occurrence last t p      how often p has occurred once it is read behind t parts `last`
--   divisor_after last t ps   each of the parts ps times its occurrence, read behind t parts `last`
use Rattle.std.specs.Prelude.{◌≡◌, ◌≤◌, ◌<◌, ◌∷◌, ◌++◌, ◌+◌, ◌-◌, ◌*◌, ◌%◌, ◌^◌}
use Rattle.std.proofs.Math.Path.{refl}
use Rattle.std.proofs.Common.{sym, ◌∙◌, ap, le_refl, mul-le-mul, mul-pos, pow-suc, one-mul, eq-eqb, ne_eqb}
use Rattle.std.proofs.Math.Decide.{ℕ_discrete}
use Rattle.std.proofs.Math.Nat.{pow-zero}
use native.Mathlib.Omega.{arith}
use Rattle.theory.specs.Basics.{Bool, true, false, not, cond, [], map, replicate, length, ℕ, zero, suc}
use Rattle.theory.specs.Basics.{pos, negsuc, ◌=?◌, odd, keep, count, product, signed}
use Rattle.theory.specs.Basics.{Each}
use Rattle.theory.proofs.Basics.Laws.{map_same, odd-suc}
use Rattle.theory.specs.Partition.{Parts, first, is_partition, degree, times}
use Rattle.theory.proofs.Partition.Laws.{front, length-degree}
use Rattle.theory.specs.Bounds.{factorial}
use Rattle.theory.proofs.Bounds.Laws.{factorial-share}
use Rattle.theory.specs.ClassData.{different, class_sign, class_divisor}

-- ---- the sign: a part p is p - 1 exchanges
parity : (ps : Parts) → (count (λ p. not (odd p)) ps + length ps) % 2 ≡ degree ps % 2
parity [] = refl
parity (p ∷ ps) = elim (ℕ_discrete (p % 2) 1) [
  | yes e ↦ rw (eq-eqb (p % 2) 1 e) (omega (arith, parity ps))
  | no f ↦ rw (ne_eqb (p % 2) 1 f) (omega (arith, parity ps))
]

pub sign-by-degree : (ps : Parts) → is_partition ps ≡ true
    → class_sign ps ≡ cond (odd (degree ps - length ps)) (negsuc 0) (pos 1)
unfolding class_sign
sign-by-degree ps h =
    let e : count (λ p. not (odd p)) ps % 2 ≡ (degree ps - length ps) % 2 =
    omega (arith, parity ps, length-degree ps h) in
    rw e

pub sign-cons : (k : ℕ) (ps : Parts) → class_sign (suc k ∷ ps) ≡ signed (odd k) (class_sign ps)
unfolding class_sign
sign-cons k ps = rw (odd-suc k) (go (odd k))
  where
    evens : Parts
    evens = keep (λ p. not (odd p)) ps

    turned : (b : Bool) → cond (not b) (negsuc 0) (pos 1) ≡ signed true (cond b (negsuc 0) (pos 1))
    turned true = refl
    turned false = refl

    go : (b : Bool) → cond (odd (length (cond (not (not b)) (suc k ∷ evens) evens))) (negsuc 0) (pos 1)
        ≡ signed b (cond (odd (length evens)) (negsuc 0) (pos 1))
    go true = rw (odd-suc (length evens)) (turned (odd (length evens)))
    go false = refl

-- ---- a part that does not occur
below_none : (q : ℕ) (ps : Parts) → is_partition ps ≡ true → first ps < q → times q ps ≡ 0
below_none q [] h l = refl
below_none q (p ∷ ps) h l =
    let f = front p ps h in
    rw (ne_eqb p q (omega arith)) (below_none q ps f.rest (omega (arith, f.falls)))

-- ---- t parts q in front of parts ps
module _ (q : ℕ) (ps : Parts) where
  times-same : (t : ℕ) → times q (replicate t q ++ ps) ≡ t + times q ps
  times-same zero = omega arith
  times-same (suc t) = rw (eq-eqb q q refl) (omega (arith, times-same t))

  times-other : (p t : ℕ) → (p ≡ q → ⊥) → times p (replicate t q ++ ps) ≡ times p ps
  times-other p zero n = refl
  times-other p (suc t) n = rw (ne_eqb q p (λ e. n (sym e))) (times-other p t n)

  different-block : (t : ℕ) → times q ps ≡ 0 → different (replicate (suc t) q ++ ps) ≡ q ∷ different ps
  different-block zero h = rw (eq-eqb (times q ps) 0 h)
  different-block (suc t) h =
      let n = times-same (suc t) in
      rw (ne_eqb (times q (replicate (suc t) q ++ ps)) 0 (omega arith)) (different-block t h)

  block-move : (t : ℕ) → replicate t q ++ (q ∷ ps) ≡ replicate (suc t) q ++ ps
  block-move zero = refl
  block-move (suc t) = ap (λ (l : Parts). q ∷ l) (block-move t)

-- ---- a block of t parts q gives its own factor to the divisor
different-other : (q : ℕ) (ps : Parts) → times q ps ≡ 0 → Each (λ p. p ≡ q → ⊥) (different ps)
different-other q [] h = tt
different-other q (p ∷ ps) h = elim (ℕ_discrete p q) [
  | yes e ↦ absurd (omega (arith, rw (eq-eqb p q e) at h))
  | no f ↦ go (times p ps =? 0) f (different-other q ps (rw (ne_eqb p q f) at h))
]
  where
    go : (b : Bool) → (p ≡ q → ⊥) → Each (λ p. p ≡ q → ⊥) (different ps)
        → Each (λ p. p ≡ q → ⊥) (cond b (p ∷ different ps) (different ps))
    go true f e = (f, e)
    go false f e = e

-- what a part length gives to the divisor
abbrev factor_of : Parts → ℕ → ℕ
factor_of ps p = p ^ times p ps * factorial (times p ps)

divisor-block : (q t : ℕ) (ps : Parts) → times q ps ≡ 0
    → class_divisor (replicate t q ++ ps) ≡ q ^ t * factorial t * class_divisor ps
unfolding class_divisor
divisor-block q zero ps h = unfold factorial in rw pow-zero (omega arith)
divisor-block q (suc t) ps h =
    let qs : Parts = replicate (suc t) q ++ ps in
    let n : times q qs ≡ suc t = omega (arith, times-same q ps (suc t)) in
    let other : (p : ℕ) → (p ≡ q → ⊥) → factor_of qs p ≡ factor_of ps p = λ p f. rw (times-other q ps p (suc t) f) in
    ap (λ (l : Parts). product (map (factor_of qs) l)) (different-block q ps t h)
    ∙ rw (n, map_same (λ p. p ≡ q → ⊥) (factor_of qs) (factor_of ps) (different ps) other (different-other q ps h))

-- ---- the divisor by one reading
abbrev pub occurrence : ℕ → ℕ → ℕ → ℕ
occurrence last t p = cond (p =? last) (suc t) 1

abbrev pub divisor_after : ℕ → ℕ → Parts → ℕ
divisor_after last t [] = 1
divisor_after last t (p ∷ ps) = p * occurrence last t p * divisor_after p (occurrence last t p) ps

pow-one : (p : ℕ) → p ^ 1 ≡ p
pow-one p = rw (pow-suc p 0, pow-zero, one-mul)

-- with the parts read before, it is the divisor of all
divisor-with : (q t : ℕ) (ps : Parts) → is_partition ps ≡ true → first ps ≤ q
    → q ^ t * factorial t * divisor_after q t ps ≡ class_divisor (replicate t q ++ ps)
divisor-with q t [] h l = sym (divisor-block q t [] refl ∙ unfold class_divisor in refl)
divisor-with q t (p ∷ ps) h l =
    let f = front p ps h in
    elim (ℕ_discrete p q) [
      | yes e ↦
          let ih = divisor-with q (suc t) ps f.rest (omega (arith, f.falls)) in
          rw (e, eq-eqb q q refl, block-move q ps t, ← ih, pow-suc q t)
          (unfold factorial in regroup (q ^ t) (factorial t) q (suc t) (divisor_after q (suc t) ps))
      | no n ↦
          let ih = divisor-with p 1 ps f.rest f.falls in
          rw (ne_eqb p q n, divisor-block q t (p ∷ ps) (below_none q (p ∷ ps) h (omega arith)), ← ih, pow-one)
          (unfold factorial in refl)
    ]
  where
    regroup : (a b c d e : ℕ) → a * b * (c * d * e) ≡ a * c * (d * b) * e
    regroup a b c d e = omega arith

pub divisor-read : (ps : Parts) → is_partition ps ≡ true → divisor_after 0 0 ps ≡ class_divisor ps
divisor-read [] h = unfold class_divisor in refl
divisor-read (p ∷ ps) h =
    let f = front p ps h in
    rw (ne_eqb p 0 (omega arith)) (unfold factorial in rw pow-one at (divisor-with p 1 ps f.rest f.falls))

positive-after : (last t : ℕ) (ps : Parts) → is_partition ps ≡ true → 0 < divisor_after last t ps
positive-after last t [] h = omega arith
positive-after last t (p ∷ ps) h =
    let f = front p ps h in
    mul-pos (mul-pos f.positive (go (p =? last))) (positive-after p (occurrence last t p) ps f.rest)
  where
    go : (b : Bool) → 0 < cond b (suc t) 1
    go true = omega arith
    go false = omega arith

pub divisor-positive : (ps : Parts) → is_partition ps ≡ true → 0 < class_divisor ps
divisor-positive ps h = rw (← divisor-read ps h) (positive-after 0 0 ps h)

-- ---- room: with the degree d grown to e, there is room for a factor of at most e
pub factor-room : (d e k x : ℕ) → d < e → k ≤ e → x ≤ factorial d → x * k ≤ factorial e
factor-room d e k x h l b =
    let left : e - (e - d) ≡ d = omega arith in
    let more = rw left at (factorial-share k e (e - d) l (omega arith)) in
    omega (arith, mul-le-mul b (le_refl k))

pub occurrence-room : (last t p d : ℕ) → last * t ≤ d → p * occurrence last t p ≤ d + p
occurrence-room last t p d h = elim (ℕ_discrete p last) [
  | yes e ↦ rw (e, eq-eqb last last refl) (omega arith)
  | no n ↦ rw (ne_eqb p last n) (omega arith)
]

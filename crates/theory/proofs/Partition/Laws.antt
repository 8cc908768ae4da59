-- Laws of part lists.
--   Front p ps   what is_partition says of a first part p and the parts ps behind it
--   Split m ps   where m stands among the parts: those before it and those behind it, which are left without it
use Rattle.std.specs.Prelude.{◌≡◌, refl, ◌<◌, ◌≤◌, ◌&&◌, ◌∷◌, ◌++◌, ◌+◌}
use Rattle.std.proofs.Common.{ap, ◌∙◌, arith, leb-true, ltb-true, le-leb, lt-ltb, eq-eqb, ne_eqb}
use Rattle.std.proofs.lemmas.Bool.{false≢true, lt-leb}
use Rattle.std.proofs.Math.Decide.{ℕ_discrete}
use Rattle.std.proofs.Math.Dec.{eqb-suc-zero}
use Rattle.theory.specs.Basics.{Bool, true, false, [], ℕ, zero, suc, length, drop}
use Rattle.theory.specs.Basics.{◌<?◌, ◌≤?◌}
use Rattle.theory.proofs.Basics.Laws.{both}
use Rattle.theory.specs.Partition.{Parts, first, is_partition, degree, times, without}
use Rattle.theory.specs.Partition.Laws.{NoZero, none, some}

-- ---- a first part
pub record Front (p : ℕ) (ps : Parts) : Type 0 where
  pub positive : 0 < p
  pub falls : first ps ≤ p
  pub rest : is_partition ps ≡ true

pub front : (p : ℕ) (ps : Parts) → is_partition (p ∷ ps) ≡ true → Front p ps
front p ps e =
    let a = both (0 <? p && first ps ≤? p) (is_partition ps) e in
    let b = both (0 <? p) (first ps ≤? p) a.0 in
    record { positive = ltb-true 0 p b.0; falls = leb-true (first ps) p b.1; rest = a.1 }

pub fall : (p : ℕ) (ps : Parts) → 0 < p → first ps ≤ p → is_partition (p ∷ ps) ≡ is_partition ps
fall p ps h l = rw (lt-ltb 0 p h, le-leb (first ps) p l)

pub rise : (p : ℕ) (ps : Parts) → p < first ps → is_partition (p ∷ ps) ≡ false
rise p ps l = rw (lt-leb (first ps) p l) (go (0 <? p))
  where
    go : (b : Bool) → (b && false) && is_partition ps ≡ false
    go true = refl
    go false = refl

pub in-front : {p : ℕ} {ps : Parts} → Front p ps → is_partition (p ∷ ps) ≡ true
in-front {p} {ps} f = fall p ps f.positive f.falls ∙ f.rest

-- ---- room
pub length-degree : (ps : Parts) → is_partition ps ≡ true → length ps ≤ degree ps
length-degree [] e = omega arith
length-degree (p ∷ ps) e =
    let f = front p ps e in
    omega (arith, length-degree ps f.rest)

pub no-degree : (ps : Parts) → is_partition ps ≡ true → degree ps ≡ 0 → ps ≡ []
no-degree [] e d = refl
no-degree (p ∷ ps) e d = absurd (omega (arith, (front p ps e).positive))

pub first-degree : (ps : Parts) → first ps ≤ degree ps
first-degree [] = omega arith
first-degree (p ∷ ps) = omega arith

-- rows and columns have room in one digit more than the degree
pub room : (ps : Parts) → is_partition ps ≡ true → length ps + first ps ≤ degree ps + 1
room [] e = omega arith
room (p ∷ ps) e =
    let f = front p ps e in
    omega (arith, length-degree ps f.rest)

-- ---- no part is 0
pub no_zero : (ps : Parts) → is_partition ps ≡ true → NoZero ps
no_zero [] e = none
no_zero (zero ∷ ps) e = absurd (false≢true e)
no_zero (suc p ∷ ps) e = some (no_zero ps (front (suc p) ps e).rest)

-- ---- the first parts left away
pub no-zero-drop : (i : ℕ) {ps : Parts} → NoZero ps → NoZero (drop i ps)
no-zero-drop zero k = k
no-zero-drop (suc i) none = none
no-zero-drop (suc i) (some k) = no-zero-drop i k

pub degree-drop : (i : ℕ) (ps : Parts) → degree (drop i ps) ≤ degree ps
degree-drop zero ps = omega arith
degree-drop (suc i) [] = omega arith
degree-drop (suc i) (p ∷ ps) = omega (arith, degree-drop i ps)

-- ---- one part taken out
pub record Split (m : ℕ) (ps : Parts) : Type 0 where
  pub before : Parts
  pub behind : Parts
  pub whole : ps ≡ before ++ (m ∷ behind)
  pub left : without m ps ≡ before ++ behind

pub split : (m : ℕ) (ps : Parts) → (times m ps ≡ 0 → ⊥) → Split m ps
split m [] h = absurd (h refl)
split m (p ∷ ps) h = elim (ℕ_discrete p m) [
  | yes e ↦ record {
    before = [];
    behind = ps;
    whole = ap (λ (q : ℕ). q ∷ ps) e;
    left = rw (eq-eqb p m e) refl;
  }
  | no f ↦
      let s = split m ps (rw (ne_eqb p m f) at h) in
      record {
        before = p ∷ s.before;
        behind = s.behind;
        whole = ap (λ (l : Parts). p ∷ l) s.whole;
        left = rw (ne_eqb p m f) (ap (λ (l : Parts). p ∷ l) s.left);
      }
]

pub without-degree : (m : ℕ) (ps : Parts) → (times m ps ≡ 0 → ⊥) → degree (without m ps) + m ≡ degree ps
without-degree m [] h = absurd (h refl)
without-degree m (p ∷ ps) h = elim (ℕ_discrete p m) [
  | yes e ↦ rw (eq-eqb p m e) (omega arith)
  | no f ↦
      let ih = without-degree m ps (rw (ne_eqb p m f) at h) in
      rw (ne_eqb p m f) (omega arith)
]

first-without : (m : ℕ) (ps : Parts) → is_partition ps ≡ true → first (without m ps) ≤ first ps
first-without m [] e = omega arith
first-without m (p ∷ ps) e = elim (ℕ_discrete p m) [
  | yes q ↦ rw (eq-eqb p m q) (front p ps e).falls
  | no f ↦ rw (ne_eqb p m f) (omega arith)
]

pub without-partition : (m : ℕ) (ps : Parts) → is_partition ps ≡ true → is_partition (without m ps) ≡ true
without-partition m [] e = refl
without-partition m (p ∷ ps) e =
    let f = front p ps e in
    elim (ℕ_discrete p m) [
      | yes q ↦ rw (eq-eqb p m q) f.rest
      | no g ↦ rw (ne_eqb p m g)
          (in-front {ps = without m ps} (record {
            positive = f.positive;
            falls = omega (arith, first-without m ps f.rest, f.falls);
            rest = without-partition m ps f.rest;
          }))
    ]

pub no-zero-without : (m : ℕ) {ps : Parts} → NoZero ps → NoZero (without m ps)
no-zero-without m none = none
no-zero-without m (some {p = p} k) = elim (ℕ_discrete (suc p) m) [
  | yes e ↦ rw (eq-eqb (suc p) m e) k
  | no f ↦ rw (ne_eqb (suc p) m f) (some (no-zero-without m k))
]

-- ---- how often a part occurs
pub times_zero : {ps : Parts} → NoZero ps → times 0 ps ≡ 0
times_zero none = refl
times_zero (some {p = p} k) = rw (eqb-suc-zero p) (times_zero k)

pub times-own : (m : ℕ) (ps : Parts) → times m (m ∷ ps) ≡ suc (times m ps)
times-own m ps = rw (eq-eqb m m refl) refl

pub times-cons : (m p : ℕ) (ps : Parts) → times m (p ∷ ps) ≡ times m (p ∷ []) + times m ps
times-cons m p ps = elim (ℕ_discrete p m) [
  | yes e ↦ rw (eq-eqb p m e) (omega arith)
  | no f ↦ rw (ne_eqb p m f) (omega arith)
]

pub times-middle : (m p : ℕ) (ps qs : Parts) → times m (ps ++ (p ∷ qs)) ≡ times m (p ∷ []) + times m (ps ++ qs)
times-middle m p [] qs = times-cons m p qs
times-middle m p (r ∷ ps) qs =
    omega (arith, times-cons m r (ps ++ (p ∷ qs)), times-cons m r (ps ++ qs), times-middle m p ps qs)

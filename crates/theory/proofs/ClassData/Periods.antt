-- Laws of the period (document 02, P2): there is one and only one, and part by part it can be computed.
--   Multiplies n p k  k is the least positive number for which p divides n times k
use Rattle.std.specs.Prelude.{◌≡◌, refl, ◌≤◌, ◌<◌, ◌∷◌, ◌*◌, ◌/◌, ◌%◌}
use Rattle.std.proofs.Common.{sym, ◌∙◌, ap, le_antisymm, mod-lt, mul-pos, mul-le-mul_left, pos_of_ne-zero, arith, eqb-true, eq-eqb}
use Rattle.std.specs.Int.{◌∣◌}
use Rattle.std.proofs.Math.Decide.{ℕ_discrete, dec_lt}
use Rattle.std.proofs.Math.Nat.{mul-mod_left, dvd_refl, dvd_trans, dvd-mul_left_of_dvd, dvd-mul_right, dvd-mod_iff, one-dvd, le_of_dvd, mod-eq-zero_of_dvd, dvd_of_mod-eq-zero, mul-div_cancel'}
use Rattle.theory.specs.Basics.{Bool, true, [], ℕ, zero, suc, ◌=?◌, Each}
use Rattle.theory.proofs.Basics.Laws.{each_both, each_same}
use Rattle.theory.proofs.Basics.Keep.{FirstFrom, first-kept}
use Rattle.theory.specs.Partition.{Parts, first, is_partition, degree}
use Rattle.theory.proofs.Partition.Laws.{front}
use Rattle.theory.specs.Bounds.{factorial}
use Rattle.theory.proofs.Bounds.Laws.{factorial-positive}
use Rattle.theory.specs.ClassData.{Divided, Period}
use Rattle.theory.specs.ClassData.Periods.{multiplier, period_from}

-- ---- there is only one, and it divides every positive number that every part divides
pub one-period : {ps : Parts} {m n : ℕ} → Period ps m → Period ps n → m ≡ n
one-period {ps} {m} {n} p q = le_antisymm (p.least n q.divided) (q.least m p.divided)

pub period-divides : {ps : Parts} {n m : ℕ} → Period ps n → Divided ps m → n ∣ m
period-divides {ps} {n} {m} p d = elim (ℕ_discrete (m % n) 0) [
  | yes e ↦ dvd_of_mod-eq-zero n e
  | no f ↦
      let both = each_both (◌∣ n) (◌∣ m) ps p.divided.by-each d.by-each in
      let rest : Divided ps (m % n) =
      record {
        positive = pos_of_ne-zero f;
        by-each = each_same _ (◌∣ (m % n)) ps (λ q e. (dvd-mod_iff q e.0).1 e.1) both;
      } in
      absurd (omega (arith, p.least (m % n) rest, mod-lt m p.divided.positive))
]

-- ---- how it is computed: a part 1 changes nothing, a part alone is its own period, and two parts can give way to theirs
period-one : {ps : Parts} {n : ℕ} → Period (1 ∷ ps) n → Period ps n
period-one p =
    record {
      divided = record { positive = p.divided.positive; by-each = p.divided.by-each.1 };
      least = λ m d. p.least m (record { positive = d.positive; by-each = (one-dvd m, d.by-each) });
    }

period-alone : (n : ℕ) → 0 < n → Period (n ∷ []) n
period-alone n some =
    record {
      divided = record { positive = some; by-each = (dvd_refl n, tt) };
      least = λ m d. le_of_dvd d.positive d.by-each.0;
    }

period-joined : {n p m x : ℕ} {ps : Parts} → Period (n ∷ p ∷ []) m → Period (m ∷ ps) x → Period (n ∷ p ∷ ps) x
period-joined {n} {p} {m} {x} two all =
    let (by-m, by-rest) = all.divided.by-each in
    let (by_n, by-p) = two.divided.by-each in
    record {
      divided = record {
        positive = all.divided.positive;
        by-each = (dvd_trans n by_n by-m, (dvd_trans p by-p.0 by-m, by-rest));
      };
      least = λ y d.
          let (n-y, others) = d.by-each in
          let both : Divided (n ∷ p ∷ []) y = record { positive = d.positive; by-each = (n-y, (others.0, tt)) } in
          all.least y (record { positive = d.positive; by-each = (period-divides two both, others.1) });
    }

-- two parts: the first multiple of the one that the other divides
pub record Multiplies (n p k : ℕ) : Type 0 where
  pub positive : 0 < k
  pub divides : n * k % p ≡ 0
  pub none_below : (j : ℕ) → 0 < j → j < k → n * j % p ≡ 0 → ⊥

first-multiple : (n p k : ℕ) → 0 < n → Multiplies n p k → Period (n ∷ p ∷ []) (n * k)
first-multiple n p k some first =
    record {
      divided = record {
        positive = mul-pos some first.positive;
        by-each = (dvd-mul_right n k, (dvd_of_mod-eq-zero p first.divides, tt));
      };
      least = λ m d.
          let j : ℕ = m / n in
          let e : n * j ≡ m = mul-div_cancel' n d.by-each.0 in
          let above : 0 < j = pos_of_ne-zero (λ z. omega (arith, d.positive, sym e ∙ ap (λ (i : ℕ). n * i) z)) in
          elim (dec_lt j k) [
            | yes l ↦ absurd (first.none_below j above l (rw e (mod-eq-zero_of_dvd p d.by-each.1.0)))
            | no f ↦ rw (← e) (mul-le-mul_left n (omega (arith, f)))
          ];
    }

-- ---- so computed it is the period, and so there is one
module _ (n p : ℕ) (part : 0 < p) where
  pub multiplies : Multiplies n p (multiplier n p)
  multiplies =
      let test : ℕ → Bool = λ k. n * k % p =? 0 in
      let own = eq-eqb (n * p % p) 0 (mul-mod_left n p) in
      let f : FirstFrom test 1 (multiplier n p) = first-kept test 1 p p part (omega arith) own in
      record {
        positive = f.from;
        divides = eqb-true (n * multiplier n p % p) 0 f.passes;
        none_below = λ j h l e. f.none_before j h l (eq-eqb (n * j % p) 0 e);
      }

  pub one-multiplier : (k : ℕ) → Multiplies n p k → k ≡ multiplier n p
  one-multiplier k a =
      let b = multiplies in
      let m : ℕ = multiplier n p in
      let above : k < m → ⊥ = λ l. b.none_below k a.positive l a.divides in
      let below : m < k → ⊥ = λ l. a.none_below m b.positive l b.divides in
      omega (arith, above, below)

  pub multiplier-within : multiplier n p ≤ p
  multiplier-within =
      let above : p < multiplier n p → ⊥ = λ l. multiplies.none_below p part l (mul-mod_left n p) in
      omega (arith, above)

period-of-all : (n : ℕ) (ps : Parts) → 0 < n → is_partition ps ≡ true → Period (n ∷ ps) (period_from n ps)
period-of-all n [] some h = period-alone n some
period-of-all n (p ∷ ps) some h =
    let f = front p ps h in
    let m = multiplies n p f.positive in
    period-joined (first-multiple n p (multiplier n p) some m)
    (period-of-all (n * multiplier n p) ps (mul-pos some m.positive) f.rest)

pub period-computed : (ps : Parts) → is_partition ps ≡ true → Period ps (period_from 1 ps)
period-computed ps h = period-one (period-of-all 1 ps (omega arith) h)

pub some-period : (ps : Parts) → is_partition ps ≡ true → (n : ℕ) × Period ps n
some-period ps h = (period_from 1 ps, period-computed ps h)

-- document 02's own examples: (4,2) comes back after 4 times, its period is not 8, and the empty class keeps 1
pub period-4-2 : Period (4 ∷ 2 ∷ []) 4
period-4-2 = period-computed (4 ∷ 2 ∷ []) refl

pub period-4-2-not-8 : Period (4 ∷ 2 ∷ []) 8 → ⊥
period-4-2-not-8 p = absurd (omega (arith, one-period p period-4-2))

pub period-empty : Period [] 1
period-empty = period-computed [] refl

-- ---- room: every part divides n!, so the period is at most that
divides-factorial : (p d : ℕ) → 0 < p → p ≤ d → p ∣ factorial d
unfolding factorial
divides-factorial p zero some l = absurd (omega arith)
divides-factorial p (suc d) some l = elim (ℕ_discrete p (suc d)) [
  | yes e ↦ rw e (dvd-mul_right (suc d) (factorial d))
  | no f ↦ dvd-mul_left_of_dvd p (divides-factorial p d some (omega arith)) (suc d)
]

each-divides : (d : ℕ) (ps : Parts) → is_partition ps ≡ true → degree ps ≤ d → Each (◌∣ factorial d) ps
each-divides d [] h l = tt
each-divides d (p ∷ ps) h l =
    let f = front p ps h in
    (divides-factorial p d f.positive (omega arith), each-divides d ps f.rest (omega arith))

pub period-room : {ps : Parts} {n : ℕ} → is_partition ps ≡ true → Period ps n → n ≤ factorial (degree ps)
period-room {ps} h p =
    let d : ℕ = degree ps in
    p.least (factorial d)
    (record { positive = factorial-positive d; by-each = each-divides d ps h (omega arith) })

-- What a class counts at beta-numbers: its cycles are struck, with no rule but that the ground counts.
--   counted c l   the sum over all ways to strike the cycles of c from l
use Rattle.std.specs.Prelude.{◌≡◌, refl, ◌∷◌, ◌++◌}
use Rattle.std.proofs.Common.{sym, ◌∙◌, ap, arith}
use Rattle.std.proofs.Math.Path.{fun_ext}
use Rattle.theory.specs.Basics.{List, [], ℕ, ℤ}
use Rattle.theory.specs.Partition.{Parts, times}
use Rattle.theory.specs.Partition.Laws.{NoZero, none, some}
use Rattle.theory.proofs.Partition.Laws.{Split, split, times-own, times-cons, times-middle}
use Rattle.theory.proofs.Character.Alternating.{Alternating, ZeroBelow, Stable}
use Rattle.theory.proofs.Character.Lowered.{lowered, lowered-lowered, lowered-alternating, lowered-zero-below}
use Rattle.theory.proofs.Character.Lowered.{lowered-stable}
use Rattle.theory.proofs.Character.Ground.{ground, ground-alternating, ground-zero-below, ground-stable}

abbrev pub counted : Parts → List ℤ → ℤ
counted [] = ground
counted (m ∷ ms) = lowered m (counted ms)

pub counted-alternating : (c : Parts) → Alternating (counted c)
counted-alternating [] = ground-alternating
counted-alternating (m ∷ ms) = lowered-alternating m (counted ms) (counted-alternating ms)

pub counted-zero-below : (c : Parts) → ZeroBelow (counted c)
counted-zero-below [] = ground-zero-below
counted-zero-below (m ∷ ms) = lowered-zero-below m (counted ms) (counted-zero-below ms)

pub counted-stable : (c : Parts) → NoZero c → Stable (counted c)
counted-stable c none = ground-stable
counted-stable c (some {p = p} {ps = ps} k) =
    lowered-stable p (counted ps) (counted ps) (counted-zero-below ps) (counted-stable ps k)

-- ---- the order of the cycles
-- any cycle may be struck first
pub counted-any : (p : Parts) (m : ℕ) (q : Parts) → counted (p ++ (m ∷ q)) ≡ lowered m (counted (p ++ q))
counted-any [] m q = refl
counted-any (n ∷ p) m q = ap (lowered n) (counted-any p m q) ∙ fun_ext (λ l. lowered-lowered n m (counted (p ++ q)) l)

pub counted-order : (c d : Parts) → ((m : ℕ) → times m c ≡ times m d) → counted c ≡ counted d
counted-order [] [] e = refl
counted-order [] (m ∷ d) e = absurd (omega (arith, e m, times-own m d))
counted-order (m ∷ c) d e = go (counted-order c) (split m d (λ n. omega (arith, e m, times-own m c)))
  where
    go : ((d : Parts) → ((m : ℕ) → times m c ≡ times m d) → counted c ≡ counted d) → Split m d
        → counted (m ∷ c) ≡ counted d
    go rest s =
        ap (lowered m) (rest (s.before ++ s.behind)
        (λ n. omega (arith, e n, times-cons n m c, ap (times n) s.whole, times-middle n m s.before s.behind)))
        ∙ sym (ap counted s.whole ∙ counted-any s.before m s.behind)

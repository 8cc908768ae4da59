-- A loop over a part list: what is left of it at a place i. Each law says what the next part does.
use Rattle.std.specs.Prelude.{◌∷◌, ◌+◌}
use mathlib.Core.Path.{◌≡◌, refl, ap}
use Prim.Native.Nat.{◌<◌, ◌≤◌}
use native.Mathlib.Numerals.{add-one}
use native.Mathlib.Omega.{arith}
use borrow.Author.Tests.{le-ltb}
use lib.ListN.{drop_of_length-le}
use lib.Seq.{drop-cons}
use Rattle.theory.specs.Basics.{false, [], ℕ, zero, suc, length, get_or, drop}
use Rattle.theory.specs.Partition.{Parts, first, is_partition, degree}
use Rattle.theory.proofs.Partition.Laws.{rise, fall}

pub first-left : (ps : Parts) (i : ℕ) → first (drop i ps) ≡ get_or ps i 0
first-left [] zero = refl
first-left [] (suc i) = refl
first-left (p ∷ ps) zero = refl
first-left (p ∷ ps) (suc i) = first-left ps i

pub none_left : (ps : Parts) (i : ℕ) → length ps ≤ i → drop i ps ≡ []
none_left ps i h = drop_of_length-le ps h

module _ (ps : Parts) (i : ℕ) (h : i < length ps) where
  pub next-left : drop i ps ≡ get_or ps i 0 ∷ drop (i + 1) ps
  next-left = rw (add-one, drop-cons ps i 0)

  pub degree-left : degree (drop i ps) ≡ get_or ps i 0 + degree (drop (i + 1) ps)
  degree-left = ap degree next-left

  -- a part that is 0, a part below the next, and one that is neither
  pub zero_left : get_or ps i 0 ≡ 0 → is_partition (drop i ps) ≡ false
  zero_left e = rw (next-left, le-ltb 0 (get_or ps i 0) (omega arith))

  pub rise-left : get_or ps i 0 < get_or ps (i + 1) 0 → is_partition (drop i ps) ≡ false
  rise-left l = rw next-left (rise (get_or ps i 0) (drop (i + 1) ps) (rw (first-left ps (i + 1)) l))

  pub fall-left : (get_or ps i 0 ≡ 0 → ⊥) → get_or ps (i + 1) 0 ≤ get_or ps i 0
      → is_partition (drop i ps) ≡ is_partition (drop (i + 1) ps)
  fall-left n l = rw next-left (fall (get_or ps i 0) (drop (i + 1) ps) (omega arith) (rw (first-left ps (i + 1)) l))

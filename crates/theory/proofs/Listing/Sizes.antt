-- The size of a class is exact (document 01, "Size of a class"): n! is divided without a remainder,
-- up to the largest limit.
--   exact class        the size times what n! is divided by is n! again
--   all-below test m   all numbers below m pass the test
use Rattle.std.specs.Prelude.{◌≡◌, refl, ◌≤◌, ◌<◌, ◌&&◌, ◌*◌}
use Rattle.std.proofs.Math.Decide.{ℕ_discrete}
use Rattle.std.proofs.Common.{arith, eqb-true}
use Rattle.theory.specs.Basics.{Bool, true, [], ℕ, zero, suc, ◌=?◌, every}
use Rattle.theory.proofs.Basics.Laws.{both}
use Rattle.theory.proofs.Basics.AtPlace.{every-at}
use Rattle.theory.specs.Partition.{Parts, is_partition, degree}
use Rattle.theory.specs.ClassData.{class_divisor, class_size}
use Rattle.theory.specs.Bounds.{factorial}
use Rattle.theory.specs.Bounds.Laws.{largest_limit}
use Rattle.theory.specs.Listing.{listing, partitions, rank}
use Rattle.theory.proofs.Listing.Ranks.{listed}

exact : Parts → Bool
exact class = class_size class * class_divisor class =? factorial (degree class)

all-below : (ℕ → Bool) → ℕ → Bool
all-below test zero = true
all-below test (suc m) = test m && all-below test m

below_at : (test : ℕ → Bool) (m n : ℕ) → all-below test m ≡ true → n < m → test n ≡ true
unfolding all-below
below_at test zero n e h = absurd (omega arith)
below_at test (suc m) n e h = elim (ℕ_discrete n m) [
  | yes same ↦ rw same (both (test m) (all-below test m) e).0
  | no f ↦ below_at test m n (both (test m) (all-below test m) e).1 (omega arith)
]

-- one computed test
all-exact : all-below (λ n. every exact (listing n)) (suc largest_limit) ≡ true
unfolding all-below exact listing partitions class_size class_divisor factorial
all-exact = refl

pub size_exact : (class : Parts) → is_partition class ≡ true → degree class ≤ largest_limit
    → class_size class * class_divisor class ≡ factorial (degree class)
unfolding exact
size_exact class partition small =
    let s = listed class partition in
    let n = degree class in
    let all = below_at (λ n. every exact (listing n)) (suc largest_limit) n all-exact (omega arith) in
    let there = every-at exact (listing n) [] (rank class) all s.within in
    eqb-true _ _ (rw s.at at there)

-- How the listing is built, and how many partitions it has.
--   partitions_up_to p n   the partitions of n whose parts are at most p; count_most p n, how many there are
--   Built p n list       how they grow: those whose first part is p, and then those whose parts are below p
use Rattle.std.specs.Prelude.{◌≡◌, refl, ◌≤◌, ◌<◌, ◌∷◌, ◌++◌, ◌+◌, ◌-◌}
use Rattle.std.proofs.Common.{sym, ◌∙◌, ap, ap₂, le_refl, arith, length-append, le-leb}
use Rattle.std.proofs.Math.Decide.{dec_le, ℕ_discrete}
use Rattle.std.proofs.lemmas.List.{length-map}
use Rattle.std.proofs.lemmas.Bool.{lt-leb}
use Rattle.theory.specs.Basics.{true, List, [], map, ℕ, zero, suc, length, get_or}
use Rattle.theory.specs.Basics.AtPlace.{tabled}
use Rattle.theory.proofs.Basics.AtPlace.{tabled-at}
use Rattle.theory.specs.Partition.{Parts}
use Rattle.theory.specs.Limits.{degree_limit}
use Rattle.theory.specs.Listing.{partitions, listing, partition_counts}

abbrev pub partitions_up_to : ℕ → ℕ → List Parts
partitions_up_to p n = partitions n p n

abbrev pub count_most : ℕ → ℕ → ℕ
count_most p n = length (partitions_up_to p n)

-- ---- how the list grows
pub data Built : ℕ → ℕ → List Parts → Type 0 where
  done : {p : ℕ} → Built p 0 ([] ∷ [])
  stuck : {n : ℕ} → Built 0 (suc n) []
  too_large : {p n : ℕ} {list : List Parts} → n < p → Built p (suc n) list → Built (suc p) (suc n) list
  fork : {p n : ℕ} {with-p below : List Parts} → p ≤ n → Built (suc p) (n - p) with-p → Built p (suc n) below
      → Built (suc p) (suc n) (map (suc p ∷◌) with-p ++ below)

built-by : (k p n : ℕ) → n ≤ k → Built p n (partitions k p n)
unfolding partitions
built-by zero p zero h = done
built-by zero p (suc n) h = absurd (omega arith)
built-by (suc k) p zero h = done
built-by (suc k) zero (suc n) h = stuck
built-by (suc k) (suc p) (suc n) h =
    let below = built-by (suc k) p (suc n) h in
    elim (dec_le p n) [
      | yes l ↦
          let e : suc n - suc p ≡ n - p = omega arith in
          rw (le-leb (suc p) (suc n) (omega arith), e) (fork l (built-by k (suc p) (n - p) (omega arith)) below)
      | no g ↦ rw (lt-leb (suc p) (suc n) (omega arith)) (too_large {p = p} {n = n} (omega arith) below)
    ]

pub built : (p n : ℕ) → Built p n (partitions_up_to p n)
built p n = built-by n p n (le_refl n)

pub built-once : {p n : ℕ} {list other : List Parts} → Built p n list → Built p n other → list ≡ other
built-once done done = refl
built-once stuck stuck = refl
built-once (too_large g a) (too_large h b) = built-once a b
built-once (too_large g a) (fork h b c) = absurd (omega arith)
built-once (fork g a b) (too_large h c) = absurd (omega arith)
built-once (fork {p = p} g a b) (fork h c d) =
    ap₂ (λ (xs ys : List Parts). map (suc p ∷◌) xs ++ ys) (built-once a c) (built-once b d)

pub length-built : {p n : ℕ} {list : List Parts} → Built p n list → length list ≡ count_most p n
length-built {p} {n} b = ap length (built-once b (built p n))

-- ---- steps of the list, and of the counts
pub most-zero : (p : ℕ) → partitions_up_to p 0 ≡ [] ∷ []
most-zero p = built-once (built p 0) done

module _ (p n : ℕ) where
  pub most-too-large : n < p → partitions_up_to (suc p) (suc n) ≡ partitions_up_to p (suc n)
  most-too-large h = built-once (built (suc p) (suc n)) (too_large h (built p (suc n)))

  pub most-fork : p ≤ n
      → partitions_up_to (suc p) (suc n) ≡ map (suc p ∷◌) (partitions_up_to (suc p) (n - p)) ++ partitions_up_to p (suc n)
  most-fork h = built-once (built (suc p) (suc n)) (fork h (built (suc p) (n - p)) (built p (suc n)))

  pub count-too-large : n < p → count_most (suc p) (suc n) ≡ count_most p (suc n)
  count-too-large h = ap length (most-too-large h)

  pub count-fork : p ≤ n → count_most (suc p) (suc n) ≡ count_most (suc p) (n - p) + count_most p (suc n)
  count-fork h = ap length (most-fork h) ∙ simp (length-append, length-map)

pub count-zero : (p : ℕ) → count_most p 0 ≡ 1
count-zero p = ap length (most-zero p)

count-rises : (p n : ℕ) → count_most p n ≤ count_most (suc p) n
count-rises p zero = omega (arith, count-zero p, count-zero (suc p))
count-rises p (suc n) = elim (dec_le p n) [
  | yes h ↦ omega (arith, count-fork p n h)
  | no g ↦ omega (arith, count-too-large p n (omega arith))
]

pub count-monotone : (p q n : ℕ) → q ≤ p → count_most q n ≤ count_most p n
count-monotone zero q n h =
    let e : q ≡ 0 = omega arith in
    rw e (le_refl (count_most 0 n))
count-monotone (suc p) q n h = elim (ℕ_discrete q (suc p)) [
  | yes e ↦ rw e (le_refl (count_most (suc p) n))
  | no f ↦ omega (arith, count-monotone p q n (omega arith), count-rises p n)
]

-- ---- the constants
pub counts-tabled : tabled (λ n. length (listing n)) 0 partition_counts ≡ true
unfolding listing partitions partition_counts
counts-tabled = refl

pub count_kept : (n : ℕ) → n ≤ degree_limit → length (listing n) ≡ get_or partition_counts n 0
unfolding partition_counts
count_kept n h = sym (tabled-at (λ n. length (listing n)) partition_counts n counts-tabled (omega arith))

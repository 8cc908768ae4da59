-- Ranks: each partition stands in the listing of its degree at its rank and only there, and counting gives the rank.
--   rank_from p n ps    where ps stands in partitions_up_to p n: for each part, those with a larger one are counted
--   Stands list i ps   ps stands at place i of the list
--   AtRank n i ps      ps is a partition of n, and its rank is i
use Rattle.std.specs.Prelude.{◌≡◌, refl, ◌≤◌, ◌<◌, ◌∷◌, ◌++◌, ◌+◌, ◌-◌}
use Rattle.std.proofs.Common.{◌∙◌, ap, zero-add, arith, length-append, get_or-append-add, eq-eqb, ne_eqb}
use Rattle.std.proofs.Math.Nat.{sub_self}
use Rattle.std.proofs.Math.Decide.{ℕ_discrete}
use Rattle.std.proofs.lemmas.List.{length-map}
use Rattle.std.proofs.Math.ListN.{get_or-append}
use Rattle.theory.specs.Basics.{true, false, List, [], map, ℕ, zero, suc, length, get_or, same}
use Rattle.theory.proofs.Basics.Laws.{same_self}
use Rattle.theory.proofs.Basics.AtPlace.{each_at, map_at}
use Rattle.theory.specs.Partition.{Parts, is_partition, degree}
use Rattle.theory.proofs.Partition.Laws.{front, first-degree}
use Rattle.theory.specs.Listing.{listing, rank_in, rank, Before, larger, later}
use Rattle.theory.proofs.Listing.Laws.{partitions_up_to, count_most, Built, done, stuck, too_large, fork}
use Rattle.theory.proofs.Listing.Laws.{built, length-built, count-too-large, count-fork, count-monotone}
use Rattle.theory.specs.Listing.Order.{UpTo}
use Rattle.theory.proofs.Listing.Order.{partition-bound, partition-at, Falling, falling}

unfoldable pub rank_from : ℕ → ℕ → Parts → ℕ
rank_from p n [] = 0
rank_from p n (q ∷ qs) = (count_most p n - count_most q n) + rank_from q (n - q) qs

-- ---- what stands in a falling list is found there
not_same : {l m : Parts} → Before l m → same m l ≡ false
not_same (larger {p = p} {q = q} h) = rw (ne_eqb q p (λ e. omega arith)) refl
not_same (later {p = p} b) = rw (eq-eqb p p refl) (not_same b)

rank-at : (list : List Parts) (i : ℕ) → Falling list → i < length list → rank_in (get_or list i []) list ≡ i
rank-at [] i f h = absurd (omega arith)
rank-at (l ∷ list) zero f h = rw (same_self l) refl
rank-at (l ∷ list) (suc i) f h =
    rw (not_same (each_at (Before l) list [] i f.0 (omega arith))) (ap suc (rank-at list i f.1 (omega arith)))

-- ---- each partition stands where the count says
pub record Stands (list : List Parts) (i : ℕ) (ps : Parts) : Type 0 where
  pub within : i < length list
  pub at : get_or list i [] ≡ ps

module _ (p : ℕ) (above below : List Parts) {i : ℕ} {ps : Parts} where
  stands-above : Stands above i ps → Stands (map (p ∷◌) above ++ below) i (p ∷ ps)
  stands-above s = record {
    within = rw (length-append, length-map above (p ∷◌)) (omega arith);
    at =
        get_or-append (map (p ∷◌) above) below [] i (omega (arith, length-map above (p ∷◌)))
        ∙ map_at (p ∷◌) above [] [] i s.within ∙ ap (λ (qs : Parts). p ∷ qs) s.at;
  }

  stands-below : Stands below i ps → Stands (map (p ∷◌) above ++ below) (length above + i) ps
  stands-below s =
      let e = get_or-append-add (map (p ∷◌) above) below i [] in
      record {
        within = rw (length-append, length-map above (p ∷◌)) (omega arith);
        at = rw (length-map above (p ∷◌)) at e ∙ s.at;
      }

-- those with the larger first part suc p stand above
rank_below : (p n q : ℕ) (qs : Parts) → p ≤ n → q ≤ p
    → rank_from (suc p) (suc n) (q ∷ qs) ≡ count_most (suc p) (n - p) + rank_from p (suc n) (q ∷ qs)
unfolding rank_from
rank_below p n q qs h l = omega (arith, count-fork p n h, count-monotone p q (suc n) l)

stands : {p n : ℕ} {list : List Parts} (ps : Parts) → Built p n list → UpTo p n ps → Stands list (rank_from p n ps) ps
unfolding rank_from
stands [] done f = record { within = omega arith; at = refl }
stands [] stuck f = absurd (omega arith)
stands [] (too_large h b) f = absurd (omega arith)
stands [] (fork h a b) f = absurd (omega arith)
stands (q ∷ qs) done f = let g = front q qs f.partition in absurd (omega arith)
stands (q ∷ qs) stuck f = let g = front q qs f.partition in absurd (omega arith)
stands {list = list} (q ∷ qs) (too_large {p = p} {n = n} h b) f =
    rw (count-too-large p n h)
    (stands {p = p} {n = suc n} {list = list} (q ∷ qs) b (partition-bound p (omega arith) f))
stands (q ∷ qs) (fork {p = p} {n = n} {with-p = with-p} {below = below} h a b) f =
    let g = front q qs f.partition in
    elim (ℕ_discrete q (suc p)) [
      | yes e ↦
          let left : suc n - suc p ≡ n - p = omega arith in
          let s = stands qs a (record { partition = g.rest; low = omega arith; whole = omega arith }) in
          rw (e, sub_self, left, zero-add) (stands-above (suc p) with-p below s)
      | no d ↦
          let low : q ≤ p = omega (arith, f.low) in
          let s = stands-below (suc p) with-p below (stands (q ∷ qs) b (partition-bound p low f)) in
          rw (rank_below p n q qs h low) (rw (length-built a) at s)
    ]

-- ---- of the listing
stands-listed : (ps : Parts) → is_partition ps ≡ true
    → Stands (listing (degree ps)) (rank_from (degree ps) (degree ps) ps) ps
unfolding listing
stands-listed ps e =
    stands ps (built (degree ps) (degree ps)) (record { partition = e; low = first-degree ps; whole = refl })

rank-listed : (n i : ℕ) → i < length (listing n) → rank_in (get_or (listing n) i []) (listing n) ≡ i
unfolding listing
rank-listed n i h = rank-at (partitions_up_to n n) i (falling (built n n)) h

pub rank-counted : (ps : Parts) → is_partition ps ≡ true → rank ps ≡ rank_from (degree ps) (degree ps) ps
unfolding rank
rank-counted ps e =
    let s = stands-listed ps e in
    rw s.at at (rank-listed (degree ps) (rank_from (degree ps) (degree ps) ps) s.within)

pub listed : (ps : Parts) → is_partition ps ≡ true → Stands (listing (degree ps)) (rank ps) ps
listed ps e = rw (rank-counted ps e) (stands-listed ps e)

pub record AtRank (n i : ℕ) (ps : Parts) : Type 0 where
  pub partition : is_partition ps ≡ true
  pub of-degree : degree ps ≡ n
  pub ranked : rank ps ≡ i

pub at-rank : (n i : ℕ) → i < length (listing n) → AtRank n i (get_or (listing n) i [])
unfolding rank
at-rank n i h =
    let f = partition-at n i h in
    record { partition = f.partition; of-degree = f.whole; ranked = rw f.whole (rank-listed n i h) }

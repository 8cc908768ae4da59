-- Shape words along the listing, and the words of all shapes of small degrees in one list.
--   Ranked n i w   w is a good shape word, of degree n, and the rank of its shape is i
--   index w        where w stands in words_below m, if it is good and the degree of its shape is below m
use Rattle.std.specs.Prelude.{◌≡◌, refl, ◌≤◌, ◌<◌, ◌∷◌, ◌+◌, ◌-◌}
use Rattle.std.proofs.Common.{◌∙◌, ap, le_refl, arith, length-append, get_or-append-add}
use Rattle.std.proofs.Math.Decide.{ℕ_discrete}
use Rattle.std.proofs.lemmas.List.{length-map}
use Rattle.std.proofs.Math.ListN.{get_or-append}
use Rattle.theory.specs.Basics.{true, List, [], map, ℕ, zero, suc, length, get_or, take, total}
use Rattle.theory.proofs.Basics.AtPlace.{map_at}
use Rattle.theory.specs.Partition.{degree}
use Rattle.theory.specs.Digits.{width}
use Rattle.theory.specs.ShapeWord.{shape_word, shape_of, good_shape}
use Rattle.theory.proofs.ShapeWord.Words.{the_word, the_shape, small-has-room}
use Rattle.theory.specs.Limits.{degree_limit}
use Rattle.theory.specs.Listing.{listing, rank, partition_counts, words_below, start}
use Rattle.theory.proofs.Listing.Laws.{count_kept}
use Rattle.theory.proofs.Listing.Ranks.{at-rank, listed}

-- ---- one degree
pub record Ranked (n i w : ℕ) : Type 0 where
  pub good : good_shape w ≡ true
  pub of-degree : degree (shape_of w) ≡ n
  pub ranked : rank (shape_of w) ≡ i

pub word-ranked : (n i : ℕ) → n < width → i < length (listing n) → Ranked n i (shape_word (get_or (listing n) i []))
word-ranked n i h l =
    let ps = get_or (listing n) i [] in
    let r = at-rank n i l in
    let w = the_word ps (small-has-room ps r.partition (omega (arith, r.of-degree))) in
    record {
      good = w.good;
      of-degree = ap degree w.its_shape ∙ r.of-degree;
      ranked = ap rank w.its_shape ∙ r.ranked;
    }

-- ---- all degrees
pub start-next : (n : ℕ) → start (suc n) ≡ start n + length (listing n)
unfolding words_below
start-next n = simp (length-append, length-map)

pub start-rises : (n m : ℕ) → n ≤ m → start n ≤ start m
start-rises n zero h =
    let e : n ≡ 0 = omega arith in
    rw e (le_refl (start 0))
start-rises n (suc m) h = elim (ℕ_discrete n (suc m)) [
  | yes e ↦ rw e (le_refl (start (suc m)))
  | no f ↦ omega (arith, start-next m, start-rises n m (omega arith))
]

total-take : (ns : List ℕ) (n : ℕ) → n < length ns → total (take (suc n) ns) ≡ total (take n ns) + get_or ns n 0
total-take [] n h = absurd (omega arith)
total-take (m ∷ ns) zero h = omega arith
total-take (m ∷ ns) (suc n) h = omega (arith, total-take ns n (omega arith))

-- starts are the running sums of the counts
pub start-summed : (n : ℕ) → n ≤ suc degree_limit → start n ≡ total (take n partition_counts)
unfolding words_below partition_counts
start-summed zero h = refl
start-summed (suc n) h =
    omega (
      arith,
      start-next n,
      start-summed n (omega arith),
      count_kept n (omega arith),
      total-take partition_counts n (omega arith),
    )

pub start-within : (m n i : ℕ) → n < m → i < length (listing n) → start n + i < start m
start-within m n i h l = omega (arith, start-next n, start-rises (suc n) m h)

pub word_at : (m n i : ℕ) → n < m → i < length (listing n)
    → get_or (words_below m) (start n + i) 0 ≡ shape_word (get_or (listing n) i [])
unfolding words_below
word_at zero n i h l = absurd (omega arith)
word_at (suc m) n i h l = elim (ℕ_discrete n m) [
  | yes e ↦
      rw e
      (get_or-append-add (words_below m) (map shape_word (listing m)) i 0
      ∙ map_at shape_word (listing m) [] 0 i (rw e at l))
  | no f ↦
      get_or-append (words_below m) (map shape_word (listing m)) 0 (start n + i)
      (start-within m n i (omega arith) l)
      ∙ word_at m n i (omega arith) l
]

-- between the starts of a degree and of the next stand the words of the degree
pub ranked-at : (m n i : ℕ) → n < m → n < width → start n ≤ i → i < start (suc n)
    → Ranked n (i - start n) (get_or (words_below m) i 0)
ranked-at m n i h s from to =
    let l : i - start n < length (listing n) = omega (arith, start-next n) in
    let e : start n + (i - start n) ≡ i = omega arith in
    let at = word_at m n (i - start n) h l in
    rw (rw e at at) (word-ranked n (i - start n) s l)

abbrev pub index : ℕ → ℕ
index w = start (degree (shape_of w)) + rank (shape_of w)

pub record Indexed (m w : ℕ) : Type 0 where
  pub in-degree : index w < start (suc (degree (shape_of w)))
  pub within : index w < start m
  pub at : get_or (words_below m) (index w) 0 ≡ w

pub indexed : (m w : ℕ) → good_shape w ≡ true → degree (shape_of w) < m → Indexed m w
indexed m w g h =
    let ps = shape_of w in
    let t = the_shape w g in
    let s = listed ps t.has_room.partition in
    record {
      in-degree = omega (arith, start-next (degree ps), s.within);
      within = start-within m (degree ps) (rank ps) h s.within;
      at = word_at m (degree ps) (rank ps) h s.within ∙ ap shape_word s.at ∙ t.its-word;
    }

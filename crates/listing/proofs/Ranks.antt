-- The calls of the listing: from what the tables and the calls on words answer to what is promised.
--   at n r             the partition of rank r in the listing of degree n
--   blank limit        as many zeros as a partition within the limit has parts at most
--   Listed limit n r   the degree is within the limit, and the rank in the list
use Rattle.std.specs.Prelude.{◌∷◌}
use mathlib.Core.Path.{◌≡◌, refl, sym, ◌∙◌, ap}
use Prim.Native.Nat.{◌≤◌, ◌<◌}
use native.Mathlib.Omega.{arith}
use lib.ListN.{length-replicate}
use borrow.Author.Tests.{le-ltb, le-leb, lt-leb, ltb-false, leb-false}
use Rattle.theory.specs.Basics.{true, List, [], ℕ, ℤ, pos, length, get_or, take, replicate}
use Rattle.theory.specs.Partition.{Parts, is_partition, degree}
use Rattle.theory.proofs.Partition.Laws.{length-degree}
use Rattle.theory.specs.ShapeWord.{shape_word, shape_of}
use Rattle.theory.proofs.ShapeWord.Good.{good-shape}
use Rattle.theory.proofs.ShapeWord.Words.{small-has-room, word_back, rows-good}
use Rattle.theory.specs.ClassWord.{class_word, class_of}
use Rattle.theory.specs.Listing.{listing, rank}
use Rattle.theory.proofs.Listing.Ranks.{AtRank, at-rank}
use Rattle.theory.specs.Refusals.{first_of, no-11, no-12, shape_checks, class_checks}
use Rattle.theory.specs.Bounds.Laws.{largest_limit}
use Rattle.theory.proofs.Refusals.Laws.{shape-passes, within-class, none-applies, first-refuses}
use Rattle.words.specs.Answers.{Outcome, word_answer, number_answer}
use Rattle.words.specs.Answers.{WordAnswer, NumberAnswer, CountAnswer, ShapeReading}
use Rattle.words.specs.Calls.{shape_parts_into, class_parts_into, shape_word_from, class_word_from, shape_reading}
use Rattle.words.proofs.Answers.{word-given, number-refused, number-given}
use Rattle.words.proofs.Callers.{word-given-by, word-refused-by}
use Rattle.words.proofs.Callers.{FrontGiven, column-refusal, front-given}
use Rattle.words.proofs.Readings.{read-shape, reading-number, shape-read}
use Rattle.listing.specs.Calls.{SectionAnswer, section_of, rank_checks, shape_at, class_at, shape_rank, class_rank}
use Rattle.listing.proofs.Indexes.{section-number}

abbrev pub at : ℕ → ℕ → Parts
at n r = get_or (listing n) r []

abbrev pub blank : ℕ → List ℕ
blank limit = replicate limit 0

-- ---- a partition within the limit as words
module _ (limit : ℕ) (fits : limit ≤ largest_limit) (ps : Parts) (partition : is_partition ps ≡ true)
    (small : degree ps ≤ limit) where
  room : length ps ≤ length (blank limit)
  room = rw length-replicate (omega (arith, length-degree ps partition))

  shape-back : shape_of (shape_word ps) ≡ ps
  shape-back = word_back ps (small-has-room ps partition (omega arith))

  word-passes : first_of (shape_checks limit (shape_word ps)) ≡ 0
  word-passes =
      shape-passes (record { good = good-shape (shape_word ps) (rows-good ps); small = rw shape-back small })

  shape-word-given : shape_word_from limit ps ≡ word_answer 0 (shape_word ps)
  unfolding shape_word_from
  shape-word-given = rw (partition, le-ltb limit (degree ps) small)

  class-word-given : class_word_from limit ps ≡ word_answer 0 (class_word ps)
  unfolding class_word_from
  class-word-given = rw (partition, le-ltb limit (degree ps) small)

  shape-rank-given : shape_rank limit (shape_word ps) ≡ number_answer 0 (pos (rank ps))
  unfolding shape_rank
  shape-rank-given = rw (word-passes, shape-back)

  shape-parts-given : (k : CountAnswer) (parts : List ℕ)
      → Outcome (shape_parts_into limit (shape_word ps) (blank limit)) k parts → FrontGiven ps k parts
  unfolding shape_parts_into
  shape-parts-given k parts o =
      let front = front-given (shape_checks limit (shape_word ps)) 14 (shape_of (shape_word ps)) (blank limit) refl
      (λ z. rw shape-back room) k parts o word-passes in
      rw shape-back at front

-- ---- a degree and a rank
pub record Listed (limit n r : ℕ) : Type 0 where
  pub small : n ≤ limit
  pub within : r < length (listing n)

module _ (limit n r : ℕ) where
  pub degree-refused : (a : SectionAnswer) → a ≡ section_of limit n → (a.refused ≡ 0 → ⊥)
      → a.refused ≡ first_of (rank_checks limit n r)
  degree-refused a e f =
      let number = section-number limit n a e in
      number ∙ sym (first-refuses (no-12 limit n ∷ []) (no-11 r (listing n) ∷ []) (λ z. f (number ∙ z)))

  pub rank-refused : n ≤ limit → length (listing n) ≤ r → 11 ≡ first_of (rank_checks limit n r)
  rank-refused h l = rw (le-ltb limit n h, le-leb (length (listing n)) r l)

  pub none-refused : Listed limit n r → first_of (rank_checks limit n r) ≡ 0
  none-refused p = rw (le-ltb limit n p.small, lt-leb (length (listing n)) r p.within)

  listed : first_of (rank_checks limit n r) ≡ 0 → Listed limit n r
  listed e =
      let a = none-applies (rank_checks limit n r) refl e in
      record { small = ltb-false limit n a.0; within = leb-false (length (listing n)) r a.1.0 }

  -- the class word of the shape word
  module _ (shape : WordAnswer) (e : shape ≡ shape_at limit n r) where
    pub class-refused : (shape.refused ≡ 0 → ⊥) → shape ≡ class_at limit n r
    unfolding shape_at class_at
    class-refused = word-refused-by (rank_checks limit n r) (shape_word (at n r)) shape e (class_word (at n r))

    module _ (fits : limit ≤ largest_limit) (z : shape.refused ≡ 0) where
      shape-given : (first_of (rank_checks limit n r) ≡ 0) × (shape ≡ word_answer 0 (shape_word (at n r)))
      unfolding shape_at
      shape-given = word-given-by (rank_checks limit n r) (shape_word (at n r)) shape e z

      known : AtRank n r (at n r)
      known = at-rank n r (listed shape-given.0).within

      small : degree (at n r) ≤ limit
      small = omega (arith, known.of-degree, (listed shape-given.0).small)

      module _ (k : CountAnswer) (parts : List ℕ)
          (o : Outcome (shape_parts_into limit shape.word (blank limit)) k parts) where
        pub parts-of-rank : FrontGiven (at n r) k parts
        parts-of-rank =
            shape-parts-given limit fits (at n r) known.partition small k parts (rw shape-given.1 at o)

        pub class-given : (a : WordAnswer) → a ≡ class_word_from limit (take k.count parts) → a ≡ class_at limit n r
        unfolding class_at
        class-given a f =
            f ∙ ap (class_word_from limit) parts-of-rank.front
            ∙ class-word-given limit fits (at n r) known.partition small
            ∙ word-given (rank_checks limit n r) (class_word (at n r)) (class_word (at n r)) shape-given.0 refl

-- ---- the rank of a shape word
module _ (limit w : ℕ) (a : ShapeReading) (e : a ≡ shape_reading limit w) where
  pub shape-rank-refused : (a.refused ≡ 0 → ⊥) → number_answer a.refused (pos 0) ≡ shape_rank limit w
  unfolding shape_rank
  shape-rank-refused =
      number-refused (shape_checks limit w) (pos (rank (shape_of w))) a.refused (reading-number limit w a e)

  -- the rank of the good word is that of the word
  pub shape-ranked : a.refused ≡ 0 → (r : ℤ) → r ≡ pos (rank (shape_of a.word))
      → number_answer 0 r ≡ shape_rank limit w
  unfolding shape_rank
  shape-ranked z r f =
      let read = shape-read limit w a e z in
      let same = ap (λ (ps : Parts). pos (rank ps)) (read-shape read) in
      number-given (shape_checks limit w) (pos (rank (shape_of w))) r read.none (f ∙ same)

-- ---- the rank of a class word
module _ (limit : ℕ) (fits : limit ≤ largest_limit) (w : ℕ) where
  class-partition : first_of (class_checks limit w) ≡ 0 → is_partition (class_of w) ≡ true
  class-partition z = (within-class limit w z).good.partition

  class-room : first_of (class_checks limit w) ≡ 0 → length (class_of w) ≤ length (blank limit)
  class-room z = room limit fits (class_of w) (class-partition z) (within-class limit w z).small

  module _ (k : CountAnswer) (parts : List ℕ) (o : Outcome (class_parts_into limit w (blank limit)) k parts) where
    pub class-refusal : k.refused ≡ first_of (class_checks limit w)
    unfolding class_parts_into
    class-refusal = column-refusal (class_checks limit w) 14 (class_of w) (blank limit) refl class-room k parts o

    pub class-rank-refused : (k.refused ≡ 0 → ⊥) → number_answer k.refused (pos 0) ≡ class_rank limit w
    unfolding class_rank
    class-rank-refused = number-refused (class_checks limit w) (pos (rank (class_of w))) k.refused class-refusal

    module _ (z : k.refused ≡ 0) where
      none : first_of (class_checks limit w) ≡ 0
      none = sym class-refusal ∙ z

      pub parts-of-class : FrontGiven (class_of w) k parts
      unfolding class_parts_into
      parts-of-class =
          front-given (class_checks limit w) 14 (class_of w) (blank limit) refl class-room k parts o none

      pub shape-of-class : {shape : WordAnswer} → shape ≡ shape_word_from limit (take k.count parts)
          → shape ≡ word_answer 0 (shape_word (class_of w))
      shape-of-class e =
          e ∙ ap (shape_word_from limit) parts-of-class.front
          ∙ shape-word-given limit fits (class_of w) (class-partition none) (within-class limit w none).small

      pub class-ranked : (shape : WordAnswer) → shape ≡ shape_word_from limit (take k.count parts)
          → (a : NumberAnswer) → a ≡ shape_rank limit shape.word → a ≡ class_rank limit w
      unfolding class_rank
      class-ranked shape e a f =
          let p = class-partition none in
          let l = (within-class limit w none).small in
          f ∙ ap (λ (x : WordAnswer). shape_rank limit x.word) (shape-of-class e)
          ∙ shape-rank-given limit fits (class_of w) p l
          ∙ number-given (class_checks limit w) (pos (rank (class_of w))) (pos (rank (class_of w))) none refl

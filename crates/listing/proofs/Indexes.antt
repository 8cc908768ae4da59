-- Where shape words stand in the table of all of them, and how a word is searched for; what holds of any such list of
-- words is theory's (Listing/Words).
use Rattle.std.specs.Prelude.{◌∷◌, ◌+◌, ◌-◌, ◌==◌, Some, position, slice_range, IsOk}
use Rattle.std.proofs.Common.{ap₂, eq-eqb, ne_eqb, lt-ltb, length-drop, length-take-le}
use Rattle.std.proofs.lemmas.List.{get_or-take, get_or-drop}
use Rattle.std.proofs.lemmas.List.Sums.{position_or_len_is}
use mathlib.Core.Path.{◌≡◌, refl, sym, ◌∙◌, ap}
use Prim.Native.Nat.{◌≤◌, ◌<◌}
use native.Mathlib.Omega.{arith}
use borrow.Author.Tests.{le-ltb, ltb-false}
use Rattle.theory.specs.Basics.{Bool, true, false, List, [], ℕ, suc, get_or, length, take, drop}
use Rattle.theory.specs.Partition.{degree}
use Rattle.theory.specs.ShapeWord.{shape_of}
use Rattle.theory.proofs.ShapeWord.Good.{shape-good}
use Rattle.theory.specs.Listing.{listing, partitions, rank, words_below, start}
use Rattle.theory.proofs.Listing.Words.{start-next, start-within, word_at, word-ranked, Indexed, indexed}
use Rattle.theory.specs.Bounds.Laws.{largest_limit}
use Rattle.theory.specs.Refusals.{first_of, no-12}
use Rattle.theory.specs.Refusals.Laws.{Within}
use Rattle.theory.proofs.Refusals.Laws.{answer-number, none-applies}
use Rattle.std.specs.declared.result.Result.{Result}
use Rattle.std.specs.declared.result.Result.TheVariants.{Ok, Err}
use Rattle.words.specs.Answers.{refusal_of}
use Rattle.words.specs.declared.refusal.Refusal.{Refusal}
use Rattle.words.proofs.Told.{told-once, is-given}
use Rattle.listing.specs.declared.Span.{Span}
use Rattle.listing.specs.Calls.{SectionAnswer, section_answer, section_told, section_of, words_within}
use Rattle.listing.specs.Private.Tables.{shape_words, word_count}

pub words-counted : length shape_words ≡ word_count
unfolding words_below listing partitions
words-counted = refl

-- ---- the section of a degree
pub section-told-once : {r s : Result Span Refusal} → section_told r ≡ section_told s → r ≡ s
section-told-once {r} {s} =
    told-once (λ k (s : Span). section_answer k s.start s.count) (record { start = 0; count = 0 })
    (λ (a : SectionAnswer). a.refused) (λ (a : SectionAnswer). record { start = a.start; count = a.count })
    (λ k x. refl) (λ k x. refl) r s

module _ (limit n : ℕ) (r : SectionAnswer) (e : r ≡ section_of limit n) where
  pub section-number : r.refused ≡ first_of (no-12 limit n ∷ [])
  unfolding section_of
  section-number =
      answer-number (λ (x : SectionAnswer). x.refused) (λ k. section_answer k 0 0)
      (section_answer 0 (start n) (length (listing n))) (λ k. refl) refl (first_of (no-12 limit n ∷ [])) r e

  pub section-small : r.refused ≡ 0 → n ≤ limit
  section-small z = ltb-false limit n (none-applies (no-12 limit n ∷ []) refl (sym section-number ∙ z)).0

  pub section-given : n ≤ limit → r ≡ section_answer 0 (start n) (length (listing n))
  unfolding section_of
  section-given h = rw (le-ltb limit n h) at e

section-told-number : (r : Result Span Refusal) → (section_told r).refused ≡ refusal_of r
section-told-number (Ok s) = refl
section-told-number (Err e) = refl

pub section-found : (limit n : ℕ) (r : Result Span Refusal) → section_told r ≡ section_of limit n → n ≤ limit → IsOk r
section-found limit n r e h =
    is-given r
    (sym (section-told-number r) ∙ ap (λ (x : SectionAnswer). x.refused) (section-given limit n (section_told r) e h))

-- ---- indexes
pub index_below : (limit n i : ℕ) → n ≤ limit → i < length (listing n) → start n + i < length (words_within limit)
index_below limit n i h l = start-within (suc limit) n i (omega arith) l

pub stands : (limit w : ℕ) → Within limit w → Indexed (suc limit) w
stands limit w h = indexed (suc limit) w (shape-good h.good) (omega arith)

-- the words of a degree up to one of them: it is found at its rank and only there
module _ (limit w i : ℕ) (h : Within limit w) (l : i ≤ rank (shape_of w)) where
  pub rank-found : limit ≤ largest_limit → get_or (words_within limit) (start (degree (shape_of w)) + i) 0 ≡ w
      → rank (shape_of w) ≡ i
  rank-found fits e =
      let n = degree (shape_of w) in
      let inside : i < length (listing n) = omega (arith, start-next n, (stands limit w h).in-degree) in
      let at = word_at (suc limit) n i (omega (arith, h.small)) inside in
      (rw (sym at ∙ e) at (word-ranked n i (omega (arith, h.small)) inside)).ranked

-- ---- among the words of its degree a word stands first at its rank
module _ (limit w : ℕ) (fits : limit ≤ largest_limit) (h : Within limit w) (ws : List ℕ) (a n : ℕ)
    (whole : ws ≡ words_within limit) (from : a ≡ start (degree (shape_of w)))
    (counted : n ≡ length (listing (degree (shape_of w)))) where
  abbrev of_degree : List ℕ
  of_degree = slice_range ws a (a + n)

  pub ranked : rank (shape_of w) < n
  ranked = omega (arith, counted, start-next (degree (shape_of w)), (stands limit w h).in-degree)

  pub section-inside : a + n ≤ length ws
  section-inside =
      omega (
        arith,
        from,
        counted,
        ranked,
        ap length whole,
        index_below limit (degree (shape_of w)) (n - 1) h.small (omega (arith, counted, ranked)),
      )

  sized : length of_degree ≡ n
  sized =
      let size : a + n - a ≡ n = omega arith in
      ap (λ k. length (take k (drop a ws))) size
      ∙ length-take-le n (drop a ws) (omega (arith, section-inside, length-drop a ws))

  at_place : (i : ℕ) → i < n → get_or of_degree i 0 ≡ get_or (words_within limit) (start (degree (shape_of w)) + i) 0
  at_place i l =
      get_or-take (a + n - a) (drop a ws) i 0 (omega arith) ∙ get_or-drop a ws i 0
      ∙ ap₂ (λ (xs : List ℕ) (k : ℕ). get_or xs (k + i) 0) whole from

  pub stands_at_rank : position (λ other. other == w) of_degree ≡ Some (rank (shape_of w))
  stands_at_rank =
      let r : ℕ = rank (shape_of w) in
      let test : ℕ → Bool = λ other. other == w in
      let hit : test (get_or of_degree r 0) ≡ true = eq-eqb (get_or of_degree r 0) w (at_place r ranked ∙ (stands limit w h).at) in
      let miss : (k : ℕ) → k < r → test (get_or of_degree k 0) ≡ false = λ k l.
      ne_eqb (get_or of_degree k 0) w (λ e.
      let found = rank-found limit w k h (omega arith) fits (sym (at_place k (omega (arith, ranked))) ∙ e) in omega arith) in
      let inside : r < length of_degree = omega (arith, sized, ranked) in
      let first = position_or_len_is test of_degree r 0 (omega arith) miss (λ m. hit) in
      rw (first, lt-ltb r (length of_degree) inside) refl

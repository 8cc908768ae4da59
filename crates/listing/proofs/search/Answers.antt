-- The word stands first at its rank, among the words of its degree.
use Rattle.std.specs.Prelude.{◌≡◌, ◌==◌, ◌+◌, ◌<◌, ◌≤◌, Some, None, position, slice_range}
use Rattle.std.proofs.Common.{◌∙◌, ap, sym, arith}
use Rattle.theory.specs.Basics.{List, ℕ, length}
use Rattle.theory.specs.Partition.{degree}
use Rattle.theory.specs.ShapeWord.{shape_of}
use Rattle.theory.specs.Listing.{listing, rank, start}
use Rattle.theory.specs.Limits.{degree_limit}
use Rattle.theory.specs.Refusals.Laws.{Within}
use Rattle.std.specs.declared.result.Result.TheVariants.{Ok}
use Rattle.listing.specs.Calls.{SectionAnswer, section_of, section_told}
use Rattle.listing.specs.Private.Tables.{shape_words, word_count}
use Rattle.listing.proofs.Indexes.{words-counted, section-found, section-given, section-inside, ranked, stands_at_rank}
use Rattle.listing.proofs.search.Goals as goal

record Among (w : ℕ) (ws : List ℕ) (r : SectionAnswer) : Type 0 where
  inside : r.start + r.count ≤ length ws
  short : length ws ≡ word_count
  ahead : rank (shape_of w) < r.count
  stands : position (λ other. other == w) (slice_range ws r.start (r.start + r.count)) ≡ Some (rank (shape_of w))

among : (w d : ℕ) (ws : List ℕ) (r : SectionAnswer)
    → (ws ≡ shape_words) × Within degree_limit w × (d ≡ degree (shape_of w)) → r ≡ section_of degree_limit d → Among w ws r
among w d ws r q e =
    let small : d ≤ degree_limit = omega (arith, q.2, q.1.small) in
    let s = section-given degree_limit d r e small in
    let from = ap (λ (x : SectionAnswer). x.start) s ∙ ap start q.2 in
    let counted = ap (λ (x : SectionAnswer). x.count) s ∙ ap (λ n. length (listing n)) q.2 in
    record {
      inside = section-inside degree_limit w (omega arith) q.1 ws r.start r.count q.0 from counted;
      short = ap length q.0 ∙ words-counted;
      ahead = ranked degree_limit w (omega arith) q.1 ws r.start r.count q.0 from counted;
      stands = stands_at_rank degree_limit w (omega arith) q.1 ws r.start r.count q.0 from counted;
    }

pub unwrap-section-requires : goal.unwrap-section-requires
unwrap-section-requires c =
    section-found degree_limit _ c.section.result c.section.ensures (omega (arith, c.requires.2, c.requires.1.small))

same : (i r : ℕ) → Some i ≡ Some r → i ≡ r
same i r e = cc

pub overflow_add-of_degree : goal.overflow_add-of_degree
overflow_add-of_degree c =
    omega (
      arith,
      among c.args.word c.args.degree _ (section_told (Ok c.unwrap-section.result)) c.requires
          (sym (ap section_told c.unwrap-section.ensures) ∙ c.section.ensures),
    )

pub offset_bounds-words-section : goal.offset_bounds-words-section
offset_bounds-words-section c =
    omega (
      arith,
      among c.args.word c.args.degree _ (section_told (Ok c.unwrap-section.result)) c.requires
          (sym (ap section_told c.unwrap-section.ensures) ∙ c.section.ensures),
    )

pub slice_bounds-of_degree-end : goal.slice_bounds-of_degree-end
slice_bounds-of_degree-end c =
    omega (
      arith,
      among c.args.word c.args.degree _ (section_told (Ok c.unwrap-section.result)) c.requires
          (sym (ap section_told c.unwrap-section.ensures) ∙ c.section.ensures),
    )

pub overflow_cast-result : goal.overflow_cast-result
overflow_cast-result c =
    let a = among c.args.word c.args.degree _ (section_told (Ok c.unwrap-section.result)) c.requires
    (sym (ap section_told c.unwrap-section.ensures) ∙ c.section.ensures) in
    omega (arith, same _ _ (c.in-Some.ensures ∙ a.stands), a.ahead, a.inside, a.short)

pub returns-in-Some : goal.returns-in-Some
returns-in-Some c =
    let a = among c.args.word c.args.degree _ (section_told (Ok c.unwrap-section.result)) c.requires
    (sym (ap section_told c.unwrap-section.ensures) ∙ c.section.ensures) in
    omega (arith, same _ _ (c.in-Some.ensures ∙ a.stands))

none : (r : ℕ) → None ≡ Some r → 0 ≡ r
none r e = cc

pub returns-in-None : goal.returns-in-None
returns-in-None c =
    let a = among c.args.word c.args.degree _ (section_told (Ok c.unwrap-section.result)) c.requires
    (sym (ap section_told c.unwrap-section.ensures) ∙ c.section.ensures) in
    none _ (c.in-None.ensures ∙ a.stands)

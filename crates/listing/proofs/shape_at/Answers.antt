-- `listing::shape_at`: the words of a degree stand from its start on, in listing order.
use Rattle.std.proofs.Common.{◌≡◌, refl, ◌∙◌, ap, ap₂, ◌+◌, ◌<◌}
use Rattle.std.proofs.lemmas.Result.{err_from_is_err_and}
use native.Mathlib.Omega.{arith}
use Rattle.theory.specs.Basics.{List, ℕ, suc, get_or}
use Rattle.theory.specs.Listing.{start}
use Rattle.theory.proofs.Listing.Words.{word_at}
use Rattle.theory.specs.Limits.{degree_limit}
use Rattle.words.proofs.Answers.{word-refused, word-given}
use Rattle.words.proofs.Told.{refuses}
use Rattle.listing.specs.Calls.{SectionAnswer, rank_checks, shape_at}
use Rattle.listing.specs.Private.Tables.{word_count}
use Rattle.listing.proofs.Indexes.{words-counted, section-small, section-given, index_below}
use Rattle.listing.proofs.Ranks.{Listed, degree-refused, rank-refused, none-refused}
use Rattle.listing.proofs.shape_at.Goals as goal

pub returns-in_err-section : goal.returns-in_err-section
unfolding shape_at
returns-in_err-section c =
    let p = err_from_is_err_and c.from_residual.result c.from_residual.ensures.1 in
    let a = c.args in
    rw (p.1, p.2)
    (word-refused (rank_checks degree_limit a.degree a.rank) _ _
    (degree-refused degree_limit a.degree a.rank _ c.in_err-section.ensures (refuses _)) (refuses _))

pub returns-then-section-rank : goal.returns-then-section-rank
unfolding shape_at
returns-then-section-rank c =
    let a = c.args in
    let small = section-small degree_limit a.degree _ c.in_ok-section.ensures refl in
    let given = section-given degree_limit a.degree _ c.in_ok-section.ensures small in
    let refuses = rank-refused degree_limit a.degree a.rank small
    (omega (arith, ap (λ (x : SectionAnswer). x.count) given, c.if-section-rank.true)) in
    word-refused (rank_checks degree_limit a.degree a.rank) _ 11 refuses (λ z. omega (arith, z))

-- a rank within the list, and where its word stands
known : (c : goal.After-struct_known-2-1) → Listed degree_limit c.args.degree c.args.rank
    × (c.in_ok-section.section.start ≡ start c.args.degree)
known c =
    let small = section-small degree_limit c.args.degree _ c.in_ok-section.ensures refl in
    let given = section-given degree_limit c.args.degree _ c.in_ok-section.ensures small in
    let count = ap (λ (x : SectionAnswer). x.count) given in (
      record { small = small; within = omega (arith, count, c.if-section-rank.false) },
      ap (λ (x : SectionAnswer). x.start) given,
    )

inside : (c : goal.After-struct_known-2-1) → c.in_ok-section.section.start + c.args.rank < word_count
inside c =
    let k = known c in
    omega (arith, words-counted, k.1, index_below degree_limit c.args.degree c.args.rank k.0.small k.0.within)

pub overflow_add-i : goal.overflow_add-i
overflow_add-i c = omega (arith, inside c)

pub offset_bounds-words-i : goal.offset_bounds-words-i
offset_bounds-words-i c = omega (arith, inside c)

pub bounds-words-i : goal.bounds-words-i
bounds-words-i c = inside c

pub returns : goal.returns
unfolding shape_at
returns c =
    let a = c.args in
    let k = known c in
    let read =
    ap₂ (λ (l : List ℕ) (i : ℕ). get_or l (i + a.rank) 0) c.shape_words-words.ensures k.1
    ∙ word_at (suc degree_limit) a.degree a.rank (omega (arith, k.0.small)) k.0.within in
    word-given (rank_checks degree_limit a.degree a.rank) _ _ (none-refused degree_limit a.degree a.rank k.0) read

-- `listing::class_rank`: a class word has the rank of the shape with the same parts.
use Rattle.std.proofs.Common.{refl, sym, ap, ◌∙◌}
use Rattle.std.proofs.lemmas.Result.{err_from_is_err_and}
use native.Mathlib.Omega.{arith}
use lib.Seq.{length-take-le}
use Rattle.theory.specs.Limits.{degree_limit}
use Rattle.words.specs.Answers.{WordAnswer, word_told}
use Rattle.words.proofs.Told.{refuses, is-given, word-told-number}
use Rattle.listing.proofs.Ranks.{class-rank-refused, parts-of-class, shape-of-class, class-ranked}
use Rattle.listing.proofs.class_rank.Goals as goal

pub returns-in_err-count : goal.returns-in_err-count
returns-in_err-count c =
    let p = err_from_is_err_and c.from_residual.result c.from_residual.ensures.1 in
    rw (p.1, p.2)
    (class-rank-refused degree_limit (omega arith) c.args.word _ _ c.in_err-count.ensures (refuses _))

pub slice_bounds-parts-end-2 : goal.slice_bounds-parts-end-2
slice_bounds-parts-end-2 c =
    (parts-of-class degree_limit (omega arith) c.args.word _ _ c.in_ok-count.ensures refl).inside

pub slice_bounds-word-end : goal.slice_bounds-word-end
slice_bounds-word-end c =
    sym
    (length-take-le _ _ (parts-of-class degree_limit (omega arith) c.args.word _ _ c.in_ok-count.ensures refl).inside)

pub unwrap-shape-requires : goal.unwrap-shape-requires
unwrap-shape-requires c =
    let e = shape-of-class degree_limit (omega arith) c.args.word _ _ c.in_ok-count.ensures refl c.word.ensures in
    is-given c.word.result (sym (word-told-number c.word.result) ∙ ap (λ (x : WordAnswer). x.refused) e)

pub returns : goal.returns
returns c =
    class-ranked degree_limit (omega arith) c.args.word _ _ c.in_ok-count.ensures refl _
    (sym (ap word_told c.unwrap-shape.ensures) ∙ c.word.ensures) _ c.shape_rank.ensures

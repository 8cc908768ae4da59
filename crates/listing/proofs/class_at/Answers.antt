-- `listing::class_at`: the parts of the shape word are the partition of that rank.
use Rattle.std.proofs.Common.{sym, refl, ◌∙◌}
use Rattle.std.proofs.lemmas.Result.{err_from_is_err_and}
use native.Mathlib.Omega.{arith}
use lib.Seq.{length-take-le}
use Rattle.theory.specs.Limits.{degree_limit}
use Rattle.words.proofs.Told.{refuses, is-given, count-told-number}
use Rattle.listing.proofs.Ranks.{class-refused, parts-of-rank, class-given}
use Rattle.listing.proofs.class_at.Goals as goal

pub returns-in_err-shape : goal.returns-in_err-shape
returns-in_err-shape c =
    let p = err_from_is_err_and c.from_residual.result c.from_residual.ensures.1 in
    let a = c.args in
    rw (p.1, p.2) (class-refused degree_limit a.degree a.rank _ c.in_err-shape.ensures (refuses _))

pub unwrap-count-requires : goal.unwrap-count-requires
unwrap-count-requires c =
    let written =
    parts-of-rank degree_limit _ _ _ c.in_ok-shape.ensures (omega arith) refl _ _ c.parts.ensures in
    is-given c.parts.result (sym (count-told-number c.parts.result) ∙ written.none)

pub slice_bounds-parts-end-2 : goal.slice_bounds-parts-end-2
slice_bounds-parts-end-2 c =
    let parts = rw c.unwrap-count.ensures at c.parts.ensures in
    let written = parts-of-rank degree_limit _ _ _ c.in_ok-shape.ensures (omega arith) refl _ _ parts in
    written.inside

pub slice_bounds-word-end : goal.slice_bounds-word-end
slice_bounds-word-end c =
    let parts = rw c.unwrap-count.ensures at c.parts.ensures in
    let written = parts-of-rank degree_limit _ _ _ c.in_ok-shape.ensures (omega arith) refl _ _ parts in
    sym (length-take-le _ _ written.inside)

pub returns : goal.returns
returns c =
    let parts = rw c.unwrap-count.ensures at c.parts.ensures in
    class-given degree_limit _ _ _ c.in_ok-shape.ensures (omega arith) refl _ _ parts _ c.word.ensures

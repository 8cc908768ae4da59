-- `words::shapes::parts`: refused with what was measured, or the parts go to a column with room.
use Rattle.std.proofs.Common.{refl, ◌∙◌, ◌^◌}
use Rattle.std.proofs.lemmas.Result.{err_from_is_err_and}
use native.Mathlib.Omega.{arith}
use borrow.Author.Tests.{ltb-true}
use Rattle.theory.specs.Digits.{width}
use Rattle.theory.specs.ShapeWord.{shape_of}
use Rattle.theory.specs.Refusals.{shape_checks}
use Rattle.theory.specs.Limits.{degree_limit}
use Rattle.theory.proofs.Refusals.Laws.{shape-clear}
use Rattle.words.specs.Calls.{shape_parts_into}
use Rattle.words.proofs.Answers.{column-refused, column-short, column-filled}
use Rattle.words.proofs.Measures.{measures}
use Rattle.words.proofs.Told.{refuses}
use Rattle.words.proofs.shapes.parts.Goals as goal

pub returns-in_err-measure : goal.returns-in_err-measure
unfolding shape_parts_into
returns-in_err-measure c =
    let p = err_from_is_err_and c.from_residual.result c.from_residual.ensures.1 in
    let w = c.args.word in
    rw (p.1, p.2)
    (column-refused (shape_checks degree_limit w) 14 (shape_of w) c.args.column.now _ c.in_err-measure.ensures.refused
    (refuses _))

pub returns-in_err-count : goal.returns-in_err-count
unfolding shape_parts_into
returns-in_err-count c =
    let p = err_from_is_err_and c.from_residual-in_err-count.result c.from_residual-in_err-count.ensures.1 in
    let w = c.args.word in
    let m = measures (shape_checks degree_limit w) (shape_of w) c.in_ok-measure.ensures in
    let short = c.in_err-count.ensures in
    rw (p.1, p.2, short.0)
    (column-short (shape_checks degree_limit w) 14 (shape_of w) c.args.column.now refl m.none (λ z. omega (arith, z))
    (omega (arith, short.1, m.count)))

pub write_rows-requires : goal.write_rows-requires
write_rows-requires c =
    let w = c.args.word in
    let m = measures (shape_checks degree_limit w) (shape_of w) c.in_ok-measure.ensures in
    (ltb-true w (2 ^ width) (shape-clear degree_limit w m.none), omega (arith, m.count, c.in_ok-count.ensures.1))

pub returns : goal.returns
unfolding shape_parts_into
returns c =
    let w = c.args.word in
    let m = measures (shape_checks degree_limit w) (shape_of w) c.in_ok-measure.ensures in
    let fits = c.in_ok-count.ensures in
    column-filled (shape_checks degree_limit w) 14 (shape_of w) c.args.column.now refl m.none _ _
    (omega (arith, m.count, fits.1)) (fits.0 ∙ m.count) c.write_rows.ensures

-- `words::classes::parts`: refused with what was measured, or the parts go to a column with room.
use Rattle.std.proofs.Common.{refl, ◌∙◌}
use Rattle.std.proofs.lemmas.Result.{err_from_is_err_and}
use native.Mathlib.Omega.{arith}
use Rattle.theory.specs.ClassWord.{class_of}
use Rattle.theory.specs.Refusals.{class_checks}
use Rattle.theory.specs.Limits.{degree_limit}
use Rattle.theory.proofs.Refusals.Laws.{within-class}
use Rattle.words.specs.Calls.{class_parts_into}
use Rattle.words.proofs.Answers.{column-refused, column-short, column-filled}
use Rattle.words.proofs.Measures.{measures}
use Rattle.words.proofs.Told.{refuses}
use Rattle.words.proofs.classes.parts.Goals as goal

pub returns-in_err-read : goal.returns-in_err-read
unfolding class_parts_into
returns-in_err-read c =
    let p = err_from_is_err_and c.from_residual.result c.from_residual.ensures.1 in
    let w = c.args.word in
    rw (p.1, p.2)
    (column-refused (class_checks degree_limit w) 14 (class_of w) c.args.column.now _ c.in_err-read.ensures.refused
    (refuses _))

pub returns-in_err-count : goal.returns-in_err-count
unfolding class_parts_into
returns-in_err-count c =
    let p = err_from_is_err_and c.from_residual-in_err-count.result c.from_residual-in_err-count.ensures.1 in
    let w = c.args.word in
    let m = measures (class_checks degree_limit w) (class_of w) c.in_ok-read.ensures in
    let short = c.in_err-count.ensures in
    rw (p.1, p.2, short.0)
    (column-short (class_checks degree_limit w) 14 (class_of w) c.args.column.now refl m.none (λ z. omega (arith, z))
    (omega (arith, short.1, m.count)))

pub write_parts-requires : goal.write_parts-requires
write_parts-requires c =
    let w = c.args.word in
    let m = measures (class_checks degree_limit w) (class_of w) c.in_ok-read.ensures in
    ((within-class degree_limit w m.none).good.below, omega (arith, m.count, c.in_ok-count.ensures.1))

pub returns : goal.returns
unfolding class_parts_into
returns c =
    let w = c.args.word in
    let m = measures (class_checks degree_limit w) (class_of w) c.in_ok-read.ensures in
    let fits = c.in_ok-count.ensures in
    column-filled (class_checks degree_limit w) 14 (class_of w) c.args.column.now refl m.none _ _
    (omega (arith, m.count, fits.1)) (fits.0 ∙ m.count) c.write_parts.ensures

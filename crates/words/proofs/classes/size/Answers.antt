-- `words::classes::size`: refused as the reader refuses, or a factorial of the table, divided.
use Rattle.std.proofs.Common.{ap, ap₂, ◌∙◌, ◌/◌, ◌≤◌}
use Rattle.std.proofs.lemmas.Result.{err_from_is_err_and}
use native.Mathlib.Omega.{arith}
use native.Mathlib.Nat.{div-le_self}
use mir.Facts.{to_z_pos}
use mir.Syntax.{w64}
use Rattle.theory.specs.Basics.{ℕ, pos, get_or}
use Rattle.theory.specs.ClassWord.{class_of}
use Rattle.theory.specs.ClassData.{class_size}
use Rattle.theory.proofs.ClassData.Laws.{divisor-positive}
use Rattle.theory.specs.Bounds.{factorial}
use Rattle.theory.specs.Refusals.{class_checks}
use Rattle.theory.specs.Limits.{degree_limit}
use Rattle.words.specs.Calls.{size_of_class}
use Rattle.words.proofs.Answers.{number-given}
use Rattle.words.proofs.Measures.{class-measures, class-fits, number-handed}
use Rattle.words.proofs.Factorials.{factorials, factorial-at, factorial-fits}
use Rattle.words.proofs.classes.size.Goals as goal

pub returns-in_err-measure : goal.returns-in_err-measure
unfolding size_of_class
returns-in_err-measure c =
    let p = err_from_is_err_and c.from_residual.result c.from_residual.ensures.1 in
    rw (p.1, p.2) (number-handed _ _ _ c.in_err-measure.ensures)

pub divisor-requires : goal.divisor-requires
divisor-requires c = class-fits (omega arith) (class-measures _ _ c.in_ok-measure.ensures).within

pub nonzero_div-result : goal.nonzero_div-result
nonzero_div-result c =
    let p = class-measures _ _ c.in_ok-measure.ensures in
    omega (arith, c.divisor.ensures, divisor-positive (class_of c.args.word) p.within.good.partition)

pub returns : goal.returns
unfolding size_of_class class_size
returns c =
    let w : ℕ = c.args.word in
    let p = class-measures _ _ c.in_ok-measure.ensures in
    let d : ℕ = c.in_ok-measure.measure.degree in
    let small : d ≤ degree_limit = omega (arith, p.within.small, p.found.degree) in
    let fits = factorial-fits d (omega (arith, small)) in
    let table = factorial-at d small ∙ ap factorial p.found.degree in
    let divided = ap₂ ◌/◌ table c.divisor.ensures in
    number-given (class_checks degree_limit w) _ _ p.found.none
    (to_z_pos w64 (omega (arith, fits, div-le_self (get_or factorials d 0) c.divisor.result, factorial-at d small)) ∙ ap pos divided)

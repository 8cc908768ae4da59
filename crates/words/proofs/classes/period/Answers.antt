-- `words::classes::period`: its answer is the one of which `period-told` says that it is promised. The period has room,
-- for it is at most n!.
use Rattle.std.proofs.Common.{ap, ◌∙◌, ◌<◌, ◌^◌}
use Rattle.std.proofs.lemmas.Result.{err_from_is_err_and}
use native.Mathlib.Omega.{arith}
use mir.Facts.{to_z_pos}
use mir.Syntax.{w64}
use Rattle.theory.specs.Basics.{ℕ, ℤ, pos}
use Rattle.theory.specs.Partition.{Parts, degree}
use Rattle.theory.specs.ClassWord.{class_of}
use Rattle.theory.specs.ClassData.Periods.{period_from}
use Rattle.theory.proofs.ClassData.Periods.{period-computed, period-room}
use Rattle.theory.specs.Refusals.{class_checks}
use Rattle.theory.specs.Limits.{degree_limit}
use Rattle.words.specs.Calls.Laws.{period-told}
use Rattle.words.proofs.Answers.{number-given}
use Rattle.words.proofs.Measures.{class-measures, class-fits, number-handed}
use Rattle.words.proofs.Factorials.{factorial-fits}
use Rattle.words.proofs.classes.period.Goals as goal

-- the number of the answer that is promised
abbrev told : ℕ → ℤ
told w = pos (period_from 1 (class_of w))

pub returns-in_err-read : goal.returns-in_err-read
returns-in_err-read c =
    let p = err_from_is_err_and c.from_residual.result c.from_residual.ensures.1 in
    let w : ℕ = c.args.word in
    rw (p.1, p.2, number-handed _ (class_of w) (told w) c.in_err-read.ensures) (period-told degree_limit w)

pub least_multiple-requires : goal.least_multiple-requires
least_multiple-requires c = class-fits (omega arith) (class-measures _ _ c.in_ok-read.ensures).within

pub overflow_cast-result : goal.overflow_cast-result
overflow_cast-result c =
    let good = (class-measures _ _ c.in_ok-read.ensures).within in
    let ps : Parts = class_of c.args.word in
    let room = period-room good.good.partition (period-computed ps good.good.partition) in
    record { sfits = omega (arith, room, c.least_multiple.ensures, factorial-fits (degree ps) (omega (arith, good.small))) }

pub returns : goal.returns
returns c =
    let w : ℕ = c.args.word in
    let found = class-measures _ _ c.in_ok-read.ensures in
    let ps : Parts = class_of w in
    let room = period-room found.within.good.partition (period-computed ps found.within.good.partition) in
    let small : c.least_multiple.result < 2 ^ 63 =
    omega (arith, room, c.least_multiple.ensures, factorial-fits (degree ps) (omega (arith, found.within.small))) in
    let given = number-given (class_checks degree_limit w) _ _ found.found.none in
    rw (given (to_z_pos w64 small ∙ ap pos c.least_multiple.ensures)) (period-told degree_limit w)

-- `words::classes::sign`: refused as the reader refuses, or the sign by the degree less the number of parts.
use Rattle.std.proofs.Common.{sym, ◌∙◌, ◌≡◌, ◌-◌, ◌%◌}
use Rattle.std.proofs.lemmas.Result.{err_from_is_err_and}
use native.Mathlib.Omega.{arith}
use borrow.Author.Tests.{eq-eqb, ne_eqb}
use Rattle.theory.specs.Basics.{length, pos, negsuc}
use Rattle.theory.specs.Partition.{degree}
use Rattle.theory.proofs.Partition.Laws.{length-degree}
use Rattle.theory.specs.ClassWord.{class_of}
use Rattle.theory.specs.ClassData.{class_sign}
use Rattle.theory.proofs.ClassData.Laws.{sign-by-degree}
use Rattle.theory.specs.Refusals.{class_checks}
use Rattle.theory.specs.Limits.{degree_limit}
use Rattle.words.specs.Calls.{sign_of_class}
use Rattle.words.proofs.Answers.{number-given}
use Rattle.words.proofs.Measures.{class-measures, number-handed}
use Rattle.words.proofs.classes.sign.Goals as goal

pub returns-in_err-measure : goal.returns-in_err-measure
unfolding sign_of_class
returns-in_err-measure c =
    let p = err_from_is_err_and c.from_residual.result c.from_residual.ensures.1 in
    rw (p.1, p.2) (number-handed _ _ _ c.in_err-measure.ensures)

pub overflow_sub-measure : goal.overflow_sub-measure
overflow_sub-measure c =
    let p = class-measures _ _ c.in_ok-measure.ensures in
    omega (arith, length-degree (class_of c.args.word) p.within.good.partition, p.found.degree, p.found.count)

pub returns-then-measure-eq1 : goal.returns-then-measure-eq1
unfolding sign_of_class
returns-then-measure-eq1 c =
    let p = class-measures _ _ c.in_ok-measure.ensures in
    let ps = class_of c.args.word in
    let odd = eq-eqb ((degree ps - length ps) % 2) 1 (omega (arith, p.found.degree, p.found.count)) in
    let minus : class_sign ps ≡ negsuc 0 = sign-by-degree ps p.within.good.partition ∙ rw odd in
    number-given (class_checks degree_limit c.args.word) _ _ p.found.none (sym minus)

pub returns : goal.returns
unfolding sign_of_class
returns c =
    let p = class-measures _ _ c.in_ok-measure.ensures in
    let ps = class_of c.args.word in
    let even = ne_eqb ((degree ps - length ps) % 2) 1 (λ z. c.if-measure-eq1.false (omega (arith, p.found.degree, p.found.count))) in
    let plus : class_sign ps ≡ pos 1 = sign-by-degree ps p.within.good.partition ∙ rw even in
    number-given (class_checks degree_limit c.args.word) _ _ p.found.none (sym plus)

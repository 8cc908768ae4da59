-- `oldlists::forms::Form::refusal`: a word is refused as its degree is.
use Rattle.std.proofs.Common.{◌∙◌, ◌^◌}
use Rattle.std.proofs.lemmas.Result.{err_from_is_err_and}
use native.Mathlib.Omega.{arith}
use borrow.Author.Tests.{lt-ltb}
use Rattle.theory.specs.ShapeWord.{shape_width}
use Rattle.theory.specs.Limits.{degree_limit}
use Rattle.theory.specs.Refusals.{shape_checks, class_checks}
use Rattle.theory.proofs.Refusals.Laws.{good-checked}
use Rattle.words.specs.Answers.Laws.{numbered-refusal}
use Rattle.words.specs.Calls.{class_degree, shape_degree}
use Rattle.oldlists.proofs.forms.Form.refusal.Goals as goal

pub returns-in_err-degree-in-Old : goal.returns-in_err-degree-in-Old
unfolding class_degree
returns-in_err-degree-in-Old c =
    let p = err_from_is_err_and c.from_residual.result c.from_residual.ensures.1 in
    rw (p.1, p.2, c.in-Old.is)
    (numbered-refusal (class_checks degree_limit c.args.word) _ _ c.in_err-degree-in-Old.ensures)

pub returns-in_err-degree-in-New : goal.returns-in_err-degree-in-New
unfolding shape_degree
returns-in_err-degree-in-New c =
    let from = c.from_residual-in_err-degree-in-New in
    let p = err_from_is_err_and from.result from.ensures.1 in
    let w = c.args.word in
    let good = lt-ltb w (2 ^ shape_width) (omega (arith, c.if-word-ge-SHAPE_WORDS.false)) in
    let answer = c.in_err-degree-in-New.ensures in
    rw (p.1, p.2, c.in-New.is)
    (numbered-refusal (shape_checks degree_limit w) _ _ answer ∙ good-checked degree_limit w good)

pub returns-in_ok-degree-in-Old : goal.returns-in_ok-degree-in-Old
unfolding class_degree
returns-in_ok-degree-in-Old c =
    rw c.in-Old.is (numbered-refusal (class_checks degree_limit c.args.word) _ _ c.in_ok-degree-in-Old.ensures)

pub returns-in_ok-degree-in-New : goal.returns-in_ok-degree-in-New
unfolding shape_degree
returns-in_ok-degree-in-New c =
    let w = c.args.word in
    let good = lt-ltb w (2 ^ shape_width) (omega (arith, c.if-word-ge-SHAPE_WORDS.false)) in
    let answer = c.in_ok-degree-in-New.ensures in
    rw c.in-New.is (numbered-refusal (shape_checks degree_limit w) _ _ answer ∙ good-checked degree_limit w good)

-- `characters::character_degree`: it is the quotient of the good word.
use Rattle.std.proofs.Common.{refl, sym, ◌∙◌, ap}
use Rattle.std.proofs.lemmas.Result.{err_from_is_err_and}
use native.Mathlib.Omega.{arith}
use Rattle.theory.specs.Partition.{degree}
use Rattle.theory.specs.Character.{character_degree}
use Rattle.theory.specs.Refusals.{shape_checks}
use Rattle.theory.specs.Limits.{degree_limit}
use Rattle.words.proofs.Answers.{number-refused, number-given}
use Rattle.words.proofs.Readings.{read-within, read-shape, reading-number, shape-read}
use Rattle.words.proofs.Told.{refuses}
use Rattle.characters.specs.Calls.{shape_character_degree}
use Rattle.characters.proofs.Lengths.{degree-carried}
use Rattle.characters.proofs.character_degree.Goals as goal

pub returns-in_err-shape : goal.returns-in_err-shape
unfolding shape_character_degree
returns-in_err-shape c =
    let p = err_from_is_err_and c.from_residual.result c.from_residual.ensures.1 in
    let s = c.args.shape in
    rw (p.1, p.2)
    (number-refused (shape_checks degree_limit s) _ _ (reading-number degree_limit s _ c.in_err-shape.ensures) (refuses _))

pub quotient-requires : goal.quotient-requires
quotient-requires c =
    let p = shape-read degree_limit c.args.shape _ c.in_ok-shape.ensures refl in
    let w = read-within p in
    let n = p.degree ∙ sym (ap degree (read-shape p)) in
    (omega (arith, w.good.below), n, omega (arith, n, w.small))

pub returns : goal.returns
unfolding shape_character_degree
returns c =
    let p = shape-read degree_limit c.args.shape _ c.in_ok-shape.ensures refl in
    let s = c.args.shape in
    number-given (shape_checks degree_limit s) _ _ p.none
    (rw c.quotient.ensures (degree-carried (omega arith) (read-within p) ∙ ap character_degree (read-shape p)))

-- `characters::character`: a check refuses, or the pair has a value, by its good word.
use Rattle.std.proofs.Common.{◌∙◌, ap}
use Rattle.std.proofs.lemmas.Result.{err_from_is_err_and}
use native.Mathlib.Omega.{arith}
use Rattle.std.specs.declared.result.Result.TheVariants.{Err}
use Rattle.theory.specs.Partition.{Parts}
use Rattle.theory.specs.ClassWord.{class_of}
use Rattle.theory.specs.Character.{◌on◌}
use Rattle.theory.specs.Refusals.{pair_checks}
use Rattle.theory.specs.Limits.{degree_limit}
use Rattle.words.proofs.Answers.{number-refused, number-given}
use Rattle.words.proofs.Told.{refuses}
use Rattle.pairs.proofs.WordPairs.{pair-refused, pair-passed}
use Rattle.characters.specs.Calls.{character_of}
use Rattle.characters.proofs.Evaluables.{pair-evaluable}
use Rattle.characters.proofs.Walks.{widened, character-carried}
use Rattle.characters.proofs.character.Goals as goal

pub returns-in_err-pair : goal.returns-in_err-pair
unfolding character_of
returns-in_err-pair c =
    let p = err_from_is_err_and c.from_residual.result c.from_residual.ensures.1 in
    rw (p.1, p.2)
    (number-refused (pair_checks degree_limit c.args.shape c.args.class) _ _
    (pair-refused _ _ _ (Err c.in_err-pair.field-0.0) c.in_err-pair.ensures) (refuses _))

pub value-requires : goal.value-requires
value-requires c =
    let pair = pair-passed degree_limit c.args.shape c.args.class c.in_ok-pair.ensures in
    (pair.words.class.good.below, widened (pair-evaluable pair.words) (omega arith))

pub returns : goal.returns
unfolding character_of
returns c =
    let pair = pair-passed degree_limit c.args.shape c.args.class c.in_ok-pair.ensures in
    number-given (pair_checks degree_limit c.args.shape c.args.class) _ _ pair.none
    (rw c.value.ensures
    (character-carried (widened (pair-evaluable pair.words) (omega arith))
    ∙ ap (λ (rs : Parts). rs on class_of c.args.class) pair.its_shape))

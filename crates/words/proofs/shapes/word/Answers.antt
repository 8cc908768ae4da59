-- `words::shapes::word`: the checks refuse the list, or none does and it is turned into a word.
use Rattle.std.proofs.Common.{sym, refl}
use Rattle.std.proofs.lemmas.Result.{err_from_is_err_and}
use native.Mathlib.Omega.{arith}
use Rattle.theory.specs.ShapeWord.{shape_word}
use Rattle.theory.specs.Refusals.{shape_list_checks}
use Rattle.theory.specs.Limits.{degree_limit}
use Rattle.words.specs.Calls.{shape_word_from}
use Rattle.words.proofs.Answers.{word-refused, word-given}
use Rattle.words.proofs.Measures.{list-fits}
use Rattle.words.proofs.Told.{refuses}
use Rattle.words.proofs.shapes.word.Goals as goal

pub returns-in_err-refusal : goal.returns-in_err-refusal
unfolding shape_word_from
returns-in_err-refusal c =
    let p = err_from_is_err_and c.from_residual.result c.from_residual.ensures.1 in
    let ps = c.args.parts.now in
    rw (p.1, p.2)
    (word-refused (shape_list_checks degree_limit ps) (shape_word ps) _ c.in_err-refusal.ensures (refuses _))

pub bits-requires : goal.bits-requires
bits-requires c = list-fits degree_limit 2 c.args.parts.now (omega arith) refl (sym c.in_ok-refusal.ensures)

pub returns : goal.returns
unfolding shape_word_from
returns c =
    let ps = c.args.parts.now in
    word-given (shape_list_checks degree_limit ps) (shape_word ps) _ (sym c.in_ok-refusal.ensures) c.bits.ensures

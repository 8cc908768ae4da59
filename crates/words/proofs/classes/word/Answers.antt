-- `words::classes::word`: the checks refuse the list, or none does and it is turned into a word.
use Rattle.std.proofs.Common.{sym, refl}
use Rattle.std.proofs.lemmas.Result.{err_from_is_err_and}
use native.Mathlib.Omega.{arith}
use Rattle.theory.specs.ClassWord.{class_word}
use Rattle.theory.specs.Refusals.{class_list_checks}
use Rattle.theory.specs.Limits.{degree_limit}
use Rattle.words.specs.Calls.{class_word_from}
use Rattle.words.proofs.Answers.{word-refused, word-given}
use Rattle.words.proofs.Measures.{list-fits}
use Rattle.words.proofs.Told.{refuses}
use Rattle.words.proofs.classes.word.Goals as goal

pub returns-in_err-refusal : goal.returns-in_err-refusal
unfolding class_word_from
returns-in_err-refusal c =
    let p = err_from_is_err_and c.from_residual.result c.from_residual.ensures.1 in
    let ps = c.args.parts.now in
    rw (p.1, p.2)
    (word-refused (class_list_checks degree_limit ps) (class_word ps) _ c.in_err-refusal.ensures (refuses _))

pub bits-requires : goal.bits-requires
bits-requires c = list-fits degree_limit 4 c.args.parts.now (omega arith) refl (sym c.in_ok-refusal.ensures)

pub returns : goal.returns
unfolding class_word_from
returns c =
    let ps = c.args.parts.now in
    word-given (class_list_checks degree_limit ps) (class_word ps) _ (sym c.in_ok-refusal.ensures) c.bits.ensures

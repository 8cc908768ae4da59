use Rattle.std.proofs.Common.{refl}
use Rattle.theory.specs.ClassWord.{class_word}
use Rattle.words.specs.Calls.{class_word_from}
use Rattle.sessiontext.proofs.Lists.{word-told}
use Rattle.sessiontext.proofs.partitions.ClassesNotation.word.Goals as goal

pub returns : goal.returns
unfolding class_word_from
returns c = rw c.ok.ensures.value (word-told class_word 4 refl c.args.parts.now c.word.result c.word.ensures)

use Rattle.std.proofs.Common.{refl}
use Rattle.theory.specs.ShapeWord.{shape_word}
use Rattle.words.specs.Calls.{shape_word_from}
use Rattle.sessiontext.proofs.Lists.{word-told}
use Rattle.sessiontext.proofs.partitions.ShapesNotation.word.Goals as goal

pub returns : goal.returns
unfolding shape_word_from
returns c = rw c.ok.ensures.value (word-told shape_word 2 refl c.args.parts.now c.word.result c.word.ensures)

-- `words::shapes::ones_in_front`: digit 1 is shifted to bit 31, and leading zeros of the complement are leading ones.
use Rattle.theory.specs.ShapeWord.Shifting.{ones_before}
use Rattle.theory.proofs.ShapeWord.Shifting.{dropped-counted}
use Rattle.words.proofs.shapes.ones_in_front.Goals as goal

pub returns : goal.returns
unfolding ones_before
returns c = dropped-counted c.args.word c.requires

-- What is written, and what the parts left will write, is the whole word.
use Rattle.theory.specs.Basics.{drop}
use Rattle.theory.specs.ClassWord.{class_word}
use Rattle.words.proofs.ClassWriting.{Writing}
use Rattle.words.proofs.classes.bits.Given as goal

abbrev pub invariant-loop-part : goal.invariant-loop-part
invariant-loop-part l = Writing (class_word l.parts) l.left l.bits (drop l.part-index l.parts)

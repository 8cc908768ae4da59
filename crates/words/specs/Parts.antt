-- What the iterator over the parts of a word has left to give.
use Rattle.words.specs.declared.parts.Parts.{Parts as Walk}
use Rattle.theory.specs.Partition.{Parts}
use Rattle.theory.specs.ClassWord.{class_of}

abbrev pub parts_left : Walk → Parts
parts_left walk = class_of walk.rest

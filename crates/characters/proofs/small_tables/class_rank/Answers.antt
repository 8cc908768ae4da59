-- `characters::small_tables::class_rank`: the digit was tested for all numbers of four digits.
use Rattle.characters.proofs.SmallWords.{class-ranked}
use Rattle.characters.proofs.small_tables.class_rank.Goals as goal

pub returns : goal.returns
returns c = class-ranked c.requires

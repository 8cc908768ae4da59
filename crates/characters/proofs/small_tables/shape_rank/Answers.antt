-- `characters::small_tables::shape_rank`: the digit was tested for all words of these degrees.
use Rattle.characters.proofs.SmallWords.{shape-ranked}
use Rattle.characters.proofs.small_tables.shape_rank.Goals as goal

pub returns : goal.returns
returns c = shape-ranked c.args.shape c.requires.0 c.requires.1

-- `characters::small_tables::small`: the zeros behind the last one tell the degree.
use Rattle.characters.proofs.SmallWords.{small-told}
use Rattle.characters.proofs.small_tables.small.Goals as goal

pub returns : goal.returns
returns c = small-told c.args.class c.requires

-- `characters::small_tables::three_at`: the table is the one that was computed.
use borrow.Author.Rules.{sfits_of}
use mir.Facts.{to_z-of_z}
use mir.Syntax.{w64}
use Rattle.characters.specs.Private.SmallTables.{small_tables}
use Rattle.characters.proofs.small_tables.three_at.Goals as goal

pub returns : goal.returns
unfolding small_tables
returns c = to_z-of_z {w = w64} (sfits_of c.result-2-1.given)

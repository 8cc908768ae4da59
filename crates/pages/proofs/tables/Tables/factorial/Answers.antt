-- `pages::tables::Tables::factorial` meets its contract: the table holds d! at the place of d.
use Rattle.pages.proofs.SpanTable.{tabled-is}
use Rattle.pages.proofs.tables.Tables.factorial.Goals as goal

pub returns : goal.returns
returns c = tabled-is c.args.self.now.of_factorials c.args.degree c.requires

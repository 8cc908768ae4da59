-- `pages::tables::Tables::span` meets its contract: the table holds S(d) at the place of d.
use Rattle.pages.proofs.SpanTable.{tabled-is}
use Rattle.pages.proofs.tables.Tables.span.Goals as goal

pub returns : goal.returns
returns c = tabled-is c.args.self.now.of_spans c.args.degree c.requires

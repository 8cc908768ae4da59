-- `pages::tables::Tables::new` meets its contract: the tables are those of n! and S(n).
use Rattle.pages.proofs.SpanTable.{factorials-table, spans-tabled}
use Rattle.pages.proofs.tables.Tables.new.Goals as goal

pub invariant_of-result : goal.invariant_of-result
invariant_of-result c = record { of_factorials = factorials-table; of_spans = spans-tabled }

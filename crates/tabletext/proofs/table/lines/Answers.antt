-- `tabletext::table::lines`: three lines, one behind the other.
use Rattle.std.proofs.Common.{arith}
use Rattle.text.specs.Wrote.Laws.{wrote_then}
use Rattle.tabletext.specs.Table.{class_text}
use Rattle.tabletext.proofs.table.lines.Goals as goal

pub returns : goal.returns
unfolding class_text
returns c =
    wrote_then (wrote_then c.line-end.ensures (omega arith) c.line-end-2.ensures) (omega arith) c.line.ensures

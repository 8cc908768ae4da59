-- `tabletext::table::table`: the lines of the table, one behind the other.
use Rattle.std.specs.Prelude.{◌≡◌}
use Rattle.std.proofs.Common.{arith}
use Rattle.theory.specs.Basics.{ℕ}
use Rattle.text.specs.Text.{Text, ascii, decimal, text_line}
use Rattle.text.specs.Wrote.{Wrote}
use Rattle.text.specs.Wrote.Laws.{wrote_then}
use Rattle.tabletext.specs.Table.{table}
use Rattle.tabletext.proofs.table.table.Goals as goal

-- a line with the number that a number is
numbered : (name : Text) {n m at end : ℕ} {before after : Text} → n ≡ m
    → Wrote (text_line name (decimal n)) at before end after → Wrote (text_line name (decimal m)) at before end after
numbered name e w = rw e at w

pub returns : goal.returns
unfolding table
returns c =
    let count = numbered (ascii "count=") c.count-count.ensures c.line-end-2.ensures in
    let two = wrote_then c.line-end.ensures (omega arith) count in
    let three = wrote_then two (omega arith) c.classes-end.ensures in
    wrote_then three (omega arith) (numbered (ascii "end=") c.count-count.ensures c.line.ensures)

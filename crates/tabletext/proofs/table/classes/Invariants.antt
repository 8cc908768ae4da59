use Rattle.std.proofs.Common.{take}
use Rattle.theory.specs.Basics.{joined}
use Rattle.theory.specs.Listing.{listing}
use Rattle.text.specs.Wrote.{Wrote}
use Rattle.tabletext.specs.Table.{class_lines}
use Rattle.tabletext.proofs.table.classes.Given as goal

-- after so many turns the lines of so many classes stand there
abbrev pub invariant-loop-rank : goal.invariant-loop-rank
invariant-loop-rank l = Wrote (joined class_lines (take l.rank (listing l.degree))) l.at l.fn.out l.end l.out

-- The lines of one class more stand behind those before.
use Rattle.std.proofs.Common.{add-one, arith}
use Rattle.theory.specs.Basics.{[]}
use Rattle.theory.specs.Listing.{listing}
use Rattle.theory.proofs.Basics.Laws.{joined-next}
use Rattle.text.specs.Wrote.Laws.{wrote_then}
use Rattle.tabletext.specs.Table.{class_lines}
use Rattle.tabletext.proofs.table.classes.Goals as goal

pub loop-rank-preserved : goal.loop-rank-preserved
loop-rank-preserved c =
    let inside = c.requires.count_value in
    rw (add-one c.loop-rank.rank, joined-next class_lines (listing c.args.degree) [] c.loop-rank.rank (omega arith))
    (wrote_then c.loop-rank.invariant (omega arith) c.class-end.ensures)

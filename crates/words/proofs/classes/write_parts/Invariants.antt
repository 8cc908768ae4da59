-- The first parts stand in the column, and those left go on behind them.
use Rattle.std.specs.Prelude.{◌+◌, ◌≤◌}
use Rattle.theory.specs.Basics.{length}
use Rattle.theory.specs.ClassWord.{class_of}
use Rattle.words.specs.Parts.{parts_left}
use Rattle.words.proofs.Columns.{Putting}
use Rattle.words.proofs.classes.write_parts.Given as goal

abbrev pub invariant-loop-i : goal.invariant-loop-i
invariant-loop-i l =
    (goal.iterator-loop-i).can_next l.i-iterator
    × (goal.iterator-loop-i).is_finite l.i-iterator
    × (l.i-iterator.count + length (parts_left l.i-iterator.iter) ≤ 31)
    × Putting (class_of l.word) l.fn.column l.column l.i-iterator.count (parts_left l.i-iterator.iter)

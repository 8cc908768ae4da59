-- The rows of the digits left are those that are not written yet.
use Rattle.std.specs.Prelude.{◌≡◌, ◌≤◌}
use Rattle.theory.specs.Digits.{digits, ones}
use Rattle.theory.specs.ShapeWord.{rows, shape_of}
use Rattle.words.proofs.Columns.{Putting}
use Rattle.words.proofs.shapes.write_rows.Given as goal

abbrev pub invariant-loop-left : goal.invariant-loop-left
invariant-loop-left l =
    (l.length ≡ ones (digits l.left l.word)) × (l.length ≤ 31)
    × Putting (shape_of l.word) l.fn.column l.column l.i (rows (digits l.left l.word))

-- `sessiontext::lengths::line`: the two lists, and what a line has beside them.
use Rattle.std.specs.Prelude.{◌≡◌, ◌+◌}
use Rattle.std.proofs.Common.{arith}
use lib.Signed.{non_neg}
use Rattle.theory.specs.Basics.{not, length}
use Rattle.theory.specs.ShapeWord.{shape_of}
use Rattle.theory.specs.ClassWord.{class_of}
use Rattle.pages.specs.Page.{line_of}
use Rattle.sessiontext.specs.SessionText.{line_text}
use Rattle.sessiontext.specs.SessionText.Room.{plain-line-short, waiting-length}
use Rattle.sessiontext.proofs.lengths.line.Goals as goal

long : (c : goal.After-class-cycles) → 9 + c.shape-rows.result + c.class-cycles.result
    ≡ length (line_text (line_of c.args.line))
long c =
    let l = line_of c.args.line in
    let rows = rw c.shape.ensures at c.shape-rows.ensures in
    let cycles = rw c.class.ensures at c.class-cycles.ensures in
    omega (
      arith,
      rows,
      cycles,
      waiting-length (not (non_neg l.weight)) (shape_of l.shape) (class_of l.class),
    )

pub overflow_add-result : goal.overflow_add-result
overflow_add-result c = omega (arith, long c, plain-line-short _ c.requires)

pub overflow_add-result-2 : goal.overflow_add-result-2
overflow_add-result-2 c = omega (arith, long c, plain-line-short _ c.requires)

pub returns : goal.returns
returns c = long c

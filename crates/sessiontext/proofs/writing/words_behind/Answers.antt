-- `sessiontext::writing::words_behind`: the parts of both words, and what is written of them.
use Rattle.std.proofs.Common.{sym}
use lib.Seq.{length-take-le}
use Rattle.sessiontext.proofs.Words.{rows-given, cycles-given, shape-parts, class-parts}
use Rattle.sessiontext.proofs.writing.words_behind.Goals as goal

pub unwrap-rows-requires : goal.unwrap-rows-requires
unwrap-rows-requires c = rows-given c.requires.0 c.parts.result (rw c.shape.ensures at c.parts.ensures)

pub unwrap-cycles-requires : goal.unwrap-cycles-requires
unwrap-cycles-requires c = cycles-given c.requires.1 c.parts-2.result (rw c.class.ensures at c.parts-2.ensures)

pub slice_bounds-shape-end : goal.slice_bounds-shape-end
slice_bounds-shape-end c =
    (shape-parts c.requires.0 c.parts.result (rw c.shape.ensures at c.parts.ensures) c.unwrap-rows.ensures).inside

pub slice_bounds-behind-end : goal.slice_bounds-behind-end
slice_bounds-behind-end c =
    sym
    (length-take-le _ _ (shape-parts c.requires.0 c.parts.result (rw c.shape.ensures at c.parts.ensures) c.unwrap-rows.ensures).inside)

pub slice_bounds-class-end : goal.slice_bounds-class-end
slice_bounds-class-end c =
    (class-parts c.requires.1 c.parts-2.result (rw c.class.ensures at c.parts-2.ensures) c.unwrap-cycles.ensures).inside

pub slice_bounds-behind-end-2 : goal.slice_bounds-behind-end-2
slice_bounds-behind-end-2 c =
    sym
    (length-take-le _ _
    (class-parts c.requires.1 c.parts-2.result (rw c.class.ensures at c.parts-2.ensures) c.unwrap-cycles.ensures).inside)

pub returns : goal.returns
returns c =
    rw (
      ← (shape-parts c.requires.0 c.parts.result (rw c.shape.ensures at c.parts.ensures) c.unwrap-rows.ensures).front,
      ← (class-parts c.requires.1 c.parts-2.result (rw c.class.ensures at c.parts-2.ensures) c.unwrap-cycles.ensures).front,
    )
    c.behind.ensures

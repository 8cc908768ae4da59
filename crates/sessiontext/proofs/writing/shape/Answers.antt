-- `sessiontext::writing::shape`: the parts of the word are written.
use Rattle.std.proofs.Common.{sym}
use lib.Seq.{length-take-le}
use Rattle.sessiontext.proofs.Words.{rows-given, shape-parts}
use Rattle.sessiontext.proofs.writing.shape.Goals as goal

pub unwrap-count-requires : goal.unwrap-count-requires
unwrap-count-requires c = rows-given c.requires c.parts.result c.parts.ensures

pub slice_bounds-parts-end-2 : goal.slice_bounds-parts-end-2
slice_bounds-parts-end-2 c = (shape-parts c.requires c.parts.result c.parts.ensures c.unwrap-count.ensures).inside

pub slice_bounds-line-end-2 : goal.slice_bounds-line-end-2
slice_bounds-line-end-2 c =
    sym (length-take-le _ _ (shape-parts c.requires c.parts.result c.parts.ensures c.unwrap-count.ensures).inside)

pub returns : goal.returns
returns c = rw (← (shape-parts c.requires c.parts.result c.parts.ensures c.unwrap-count.ensures).front) c.line.ensures

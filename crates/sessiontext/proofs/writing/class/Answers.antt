-- `sessiontext::writing::class`: the parts of the word are written.
use Rattle.std.proofs.Common.{sym}
use lib.Seq.{length-take-le}
use Rattle.sessiontext.proofs.Words.{cycles-given, class-parts}
use Rattle.sessiontext.proofs.writing.class.Goals as goal

pub unwrap-count-requires : goal.unwrap-count-requires
unwrap-count-requires c = cycles-given c.requires c.parts.result c.parts.ensures

pub slice_bounds-parts-end-2 : goal.slice_bounds-parts-end-2
slice_bounds-parts-end-2 c = (class-parts c.requires c.parts.result c.parts.ensures c.unwrap-count.ensures).inside

pub slice_bounds-line-end-2 : goal.slice_bounds-line-end-2
slice_bounds-line-end-2 c =
    sym (length-take-le _ _ (class-parts c.requires c.parts.result c.parts.ensures c.unwrap-count.ensures).inside)

pub returns : goal.returns
returns c = rw (← (class-parts c.requires c.parts.result c.parts.ensures c.unwrap-count.ensures).front) c.line.ensures

-- `sessiontext::writing::degree`: the degree that the word is read with.
use Rattle.sessiontext.proofs.Words.{degree-given, shape-degree}
use Rattle.sessiontext.proofs.writing.degree.Goals as goal

pub unwrap-degree-requires : goal.unwrap-degree-requires
unwrap-degree-requires c = degree-given c.requires c.degree.result c.degree.ensures

pub returns : goal.returns
returns c = rw (shape-degree c.requires c.degree.result c.degree.ensures c.unwrap-degree.ensures) at c.line.ensures

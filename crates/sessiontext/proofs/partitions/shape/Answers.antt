use Rattle.sessiontext.proofs.ListLines.{degree-read, degree-told}
use Rattle.sessiontext.proofs.partitions.shape.Goals as goal

pub unwrap-degree-requires : goal.unwrap-degree-requires
unwrap-degree-requires c =
    let read = c.in_ok-word.ensures in
    degree-read _ read.0 read.1 c.degree.result c.degree.ensures

pub returns : goal.returns
returns c =
    let read = c.in_ok-word.ensures in
    (read.0, read.1, degree-told _ read.0 read.1 c.degree.result c.degree.ensures c.unwrap-degree.ensures)

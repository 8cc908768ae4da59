use Rattle.sessiontext.proofs.Lists.{many-parts, parts-told}
use Rattle.sessiontext.proofs.partitions.word_in.Goals as goal

pub returns-in_err-parts_in : goal.returns-in_err-parts_in
returns-in_err-parts_in g c = rw c.from_residual.ensures (many-parts c.args.text.now c.in_err-parts_in.ensures)

pub returns : goal.returns
returns g c = parts-told c.args.text.now g.N.Notation.word_of _ c.in_ok-parts_in.ensures c.word.ensures

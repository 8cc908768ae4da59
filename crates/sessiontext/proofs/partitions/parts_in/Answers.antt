use Rattle.sessiontext.proofs.Lists.{parts-got}
use Rattle.sessiontext.proofs.partitions.parts_in.Goals as goal

pub returns : goal.returns
returns c = parts-got c.args.text.now c.told-column c.list_in-count.ensures _ c.get.ensures.lookup

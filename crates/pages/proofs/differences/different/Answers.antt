-- `pages::differences::different` meets its contract: there is room for the chains of many words.
use Rattle.std.proofs.Common.{arith}
use Rattle.pages.proofs.Chains.{room-of-zeros}
use Rattle.pages.proofs.differences.different.Goals as goal

pub different_with-requires-2 : goal.different_with-requires-2
different_with-requires-2 c = room-of-zeros _ 4093 4096 c.requires c.requires (omega arith)

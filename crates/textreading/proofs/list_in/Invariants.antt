-- After i turns the first i bytes are read.
use Rattle.textreading.proofs.Pieces.{Reached}
use Rattle.textreading.proofs.list_in.Given as goal

abbrev pub invariant-loop-byte : goal.invariant-loop-byte
invariant-loop-byte l = Reached l.text l.initial.column l.byte-index l.number l.count l.column

-- After i turns the first i values stand there, set apart by commas.
use Rattle.text.proofs.ListLoops.{Reached}
use Rattle.text.proofs.lists.RefSliceWritten.write.Given as goal

abbrev pub invariant-loop-i : goal.invariant-loop-i
invariant-loop-i g l = Reached g.T.Written.text l.self l.at l.initial.out l.i l.end l.out

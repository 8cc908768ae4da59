-- After i turns the first i bytes stand there.
use Rattle.theory.specs.Basics.{take}
use Rattle.text.specs.Wrote.{Wrote}
use Rattle.text.proofs.writing.put.Given as goal

abbrev pub invariant-loop-i : goal.invariant-loop-i
invariant-loop-i l = Wrote (take l.i l.text) l.initial.at l.initial.out l.end l.out

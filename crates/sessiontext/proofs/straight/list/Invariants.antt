use Rattle.std.proofs.Common.{◌≡◌, ◌++◌, take}
use Rattle.sessiontext.proofs.Standing.{ended}
use Rattle.sessiontext.proofs.straight.list.Given as goal

abbrev pub invariant-loop-i : goal.invariant-loop-i
invariant-loop-i l = l.fn.text ≡ ended (take l.i l.column) ++ l.left

use Rattle.sessions.proofs.Strips.{Stripping}
use Rattle.sessions.proofs.lines.strip.Given as goal

-- the hook lines of the hooks passed and of those to come make the strip and the settled sum
abbrev pub invariant-loop-hook : goal.invariant-loop-hook
invariant-loop-hook l = Stripping l.cycle l.line l.class l.fn.strip l.hook-iterator l.strip l.count l.settled

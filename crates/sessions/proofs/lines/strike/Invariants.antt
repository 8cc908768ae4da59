-- What has been read, and what is left without the cycle, are the class without it.
use Rattle.std.specs.Prelude.{◌%◌, ◌^◌}
use Rattle.words.specs.Parts.{parts_left}
use Rattle.sessions.proofs.Cycles.{Striking}
use Rattle.sessions.proofs.lines.strike.Given as goal

abbrev pub invariant-loop-part : goal.invariant-loop-part
invariant-loop-part l =
    (goal.iterator-loop-part).can_next l.part-iterator
    × (goal.iterator-loop-part).is_finite l.part-iterator
    × Striking l.class l.cycle l.left (l.class % 2 ^ l.left) (parts_left l.part-iterator)

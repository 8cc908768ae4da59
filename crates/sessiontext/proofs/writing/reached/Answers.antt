-- `sessiontext::writing::reached`: three lines, one behind the other.
use Rattle.std.specs.Prelude.{◌≡◌}
use Rattle.std.proofs.Common.{arith}
use mir.Facts.{to_z-of_z}
use mir.Syntax.{w64}
use mir.Val.{to_z, of_z}
use borrow.Author.Rules.{sfits_of}
use Rattle.theory.specs.Basics.{pos, nat_abs}
use Rattle.text.specs.Wrote.Laws.{wrote_then}
use Rattle.sessiontext.specs.Reading.Back.{forward-same}
use Rattle.sessiontext.proofs.Words.{held_fits}
use Rattle.sessiontext.proofs.writing.reached.Goals as goal

pub returns : goal.returns
returns c =
    let slip = c.args.slip in
    let (steps, settled) = c.requires in
    -- the numbers as they are handed on
    let forward : to_z w64 (of_z w64 slip.steps) ≡ pos (nat_abs slip.steps) =
    rw (← forward-same slip.steps steps.forward) (to_z-of_z {w = w64} (sfits_of steps.small)) in
    let held : to_z w64 (of_z w64 slip.settled) ≡ slip.settled = to_z-of_z {w = w64} (held_fits slip.settled settled) in
    wrote_then
    (wrote_then (rw forward at c.line-end.ensures) (omega arith) (rw held at c.line-end-2.ensures))
    (omega arith) c.line.ensures

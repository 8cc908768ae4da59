use Rattle.std.proofs.Common.{◌≡◌, ◌≤◌, ◌*◌, length, take}
use Rattle.theory.specs.Basics.{joined}
use Rattle.pages.specs.Page.{line_of}
use Rattle.sessiontext.specs.SessionText.{line_text}
use Rattle.sessiontext.specs.SessionText.Room.{line_room}
use Rattle.sessiontext.proofs.lengths.all.Given as goal

-- the lines so far are counted
abbrev pub invariant-loop-word : goal.invariant-loop-word
invariant-loop-word l =
    (l.long ≡ length (joined (λ x. line_text (line_of x)) (take l.word-index l.lines)))
    × (l.long ≤ l.word-index * line_room)

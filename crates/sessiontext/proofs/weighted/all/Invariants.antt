use Rattle.std.proofs.Common.{take}
use Rattle.theory.specs.Basics.{joined}
use Rattle.text.specs.Wrote.{Wrote}
use Rattle.pages.specs.Mode.{alongside}
use Rattle.sessiontext.specs.SessionText.{gathered_form, line_text_by}
use Rattle.sessiontext.proofs.weighted.all.Given as goal

-- the lines so far stand there
abbrev pub invariant-loop-i : goal.invariant-loop-i
invariant-loop-i l =
    Wrote (joined (line_text_by gathered_form) (take l.i (alongside l.lines l.coefficients))) l.at l.fn.out l.end l.out

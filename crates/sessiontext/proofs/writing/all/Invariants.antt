use Rattle.std.proofs.Common.{take}
use Rattle.theory.specs.Basics.{joined}
use Rattle.text.specs.Wrote.{Wrote}
use Rattle.pages.specs.Page.{line_of}
use Rattle.sessiontext.specs.SessionText.{line_text}
use Rattle.sessiontext.proofs.writing.all.Given as goal

-- the lines so far stand there
abbrev pub invariant-loop-word : goal.invariant-loop-word
invariant-loop-word l = Wrote (joined (λ x. line_text (line_of x)) (take l.word-index l.lines)) l.at l.fn.out l.end l.out

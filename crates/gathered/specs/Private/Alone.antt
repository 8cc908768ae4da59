-- A line of the gathered mode by itself: a plain session of that one line, its coefficient left out.
--   alone x   the slip of the session whose one line is the page's word x
use Rattle.theory.specs.Basics.{ℕ, pos}
use Rattle.pages.specs.declared.Slip.{Slip}
use Rattle.pages.specs.Page.{line_of, slip_of}

abbrev pub alone : ℕ → Slip
alone x = slip_of (line_of x).shape (line_of x).class (pos 0) 1 (pos 0) 0

use Rattle.theory.specs.Basics.{map}
use Rattle.theory.specs.Bounds.Laws.{largest_limit}
use Rattle.pages.specs.Page.{line_of}
use Rattle.characters.proofs.Sums.{Summing}
use Rattle.characters.proofs.lines.sum.Given as goal

abbrev pub invariant-loop-line : goal.invariant-loop-line
invariant-loop-line l = Summing largest_limit (map line_of l.lines) l.line-index l.sum

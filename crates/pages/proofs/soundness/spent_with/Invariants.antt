-- What the lines that are left take from what is left is what all take.
use Rattle.std.specs.Prelude.{Some}
use Rattle.std.proofs.Common.{◌≡◌, drop}
use Rattle.theory.specs.Basics.{map}
use Rattle.theory.specs.Limits.{degree_limit}
use Rattle.pages.specs.Page.{line_of}
use Rattle.pages.specs.Budget.{budget_told, spent_all}
use Rattle.pages.specs.Private.Degrees.{Knows}
use Rattle.pages.proofs.soundness.spent_with.Given as goal

abbrev pub invariant-loop-line : goal.invariant-loop-line
invariant-loop-line l = record {
  spent : spent_all degree_limit (budget_told (Some l.left)) (map line_of (drop l.line-index l.lines))
      ≡ spent_all degree_limit (budget_told (Some l.fn.budget)) (map line_of l.lines);
  knows : Knows l.shapes l.classes;
}

-- What is left suffices for the lines that are left where the value does for all.
use Rattle.std.proofs.Common.{◌≡◌, ◌≤◌, length, drop}
use Rattle.theory.specs.Limits.{degree_limit}
use Rattle.pages.specs.declared.degrees.Kind.TheVariants.{Shape}
use Rattle.pages.specs.Private.Degrees.{AllKnown}
use Rattle.pages.specs.Private.Gathered.{suffices_besides}
use Rattle.pages.proofs.gathering.besides.Given as goal

abbrev pub invariant-loop-line : goal.invariant-loop-line
invariant-loop-line l = record {
  suffices : suffices_besides degree_limit l.left (drop (length l.yielded) l.lines) (drop (length l.yielded) l.coefficients)
      ≡ suffices_besides degree_limit l.fn.value l.lines l.coefficients;
  known : AllKnown Shape l.shapes;
  falls : l.left ≤ l.fn.value;
}

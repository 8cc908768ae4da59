-- What the weights that are left make of the column as it is now is what all make of it as it was.
use Rattle.std.proofs.Common.{◌≡◌, ◌+◌}
use Rattle.theory.specs.Basics.{length, drop}
use Rattle.gathered.specs.Private.Joining.{Small, raised}
use Rattle.gathered.proofs.joining.raise.Given as goal

abbrev pub invariant-loop-place : goal.invariant-loop-place
invariant-loop-place l = record {
  becomes : raised l.column (drop (length l.yielded) l.places) (drop (length l.yielded) l.weights)
      ≡ raised l.fn.column l.places l.weights;
  small : Small (length l.yielded + 1) l.column;
}

-- What is counted, and what the hook lines that are left spare; a hook line spares two lines at most.
use Rattle.std.proofs.Common.{◌≡◌, ◌+◌, ◌*◌, ◌≤◌}
use Rattle.theory.specs.Basics.{length, drop}
use Rattle.gathered.specs.Private.Joining.{saved_by}
use Rattle.gathered.proofs.joining.saved_by_all.Given as goal

abbrev pub invariant-loop-place : goal.invariant-loop-place
invariant-loop-place l = record {
  counted : l.all + saved_by l.column (drop (length l.yielded) l.places) (drop (length l.yielded) l.weights)
      ≡ saved_by l.column l.places l.weights;
  most : l.all ≤ 2 * length l.yielded;
}

-- The product is the factorial of the number before the index.
use Rattle.std.proofs.Common.{◌≡◌, ◌+◌, ◌-◌, ◌≤◌}
use Rattle.theory.specs.Bounds.{factorial}
use Rattle.testing.proofs.numbers.factorial.Given as goal

abbrev pub invariant-loop-i : goal.invariant-loop-i
invariant-loop-i l = (l.fn.n ≤ 20) × (l.i ≤ l.fn.n + 1) × (l.product ≡ factorial (l.i - 1))

-- The degree so far, and that of what is left, are the whole degree.
use Rattle.std.specs.Prelude.{◌≡◌, ◌+◌, ◌≤◌}
use Rattle.theory.specs.Basics.{drop}
use Rattle.theory.specs.Partition.{degree}
use Rattle.theory.specs.Limits.{degree_limit}
use Rattle.words.proofs.lists.capped_degree.Given as goal

abbrev pub invariant-loop-part : goal.invariant-loop-part
invariant-loop-part l =
    (l.degree ≤ degree_limit) × (degree l.parts ≡ l.degree + degree (drop l.part-index l.parts))

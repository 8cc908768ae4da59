-- The measure is twice the degree of the shape, and one more for the value.
use Rattle.std.proofs.Common.{◌+◌, ◌*◌}
use Rattle.theory.specs.Partition.{degree}
use Rattle.theory.specs.ShapeWord.{shape_of}
use Rattle.theory.specs.ClassWord.{class_of}
use Rattle.theory.specs.Character.{◌on◌}
use Rattle.characters.proofs.HookSums.{Walked}
use Rattle.characters.proofs.walking.+hook_walk_value.Given as goal

abbrev pub decreases-hook_walk : goal.decreases-hook_walk
decreases-hook_walk l = degree (shape_of l.shape) * 2

abbrev pub decreases-value : goal.decreases-value
decreases-value l = degree (shape_of l.shape) * 2 + 1

abbrev pub invariant-hook_walk-loop-hook : goal.invariant-hook_walk-loop-hook
invariant-hook_walk-loop-hook l = Walked (λ s. shape_of s on class_of l.rest) l.shape l.cycle l.hook-iterator l.sum

-- All are 0 where those that are left are.
use Rattle.std.specs.Prelude.{◌≡◌}
use Rattle.std.specs.Slice.Iter.{chunks_rest}
use Rattle.theory.specs.Basics.{every}
use Rattle.clearing.proofs.is_clear.Given as goal

abbrev pub invariant-loop-block : goal.invariant-loop-block
invariant-loop-block g l =
    (goal.iterator-loop-block g).can_next l.block-iterator
    × (goal.iterator-loop-block g).is_finite l.block-iterator
    × (every g.T.Zero.is_zero l.lent ≡ every g.T.Zero.is_zero (chunks_rest l.block-iterator))

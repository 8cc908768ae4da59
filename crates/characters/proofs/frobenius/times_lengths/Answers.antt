-- The next hook is one factor of those that are to come.
use Rattle.std.proofs.Common.{arith}
use Rattle.characters.proofs.Lengths.{length-next}
use Rattle.characters.proofs.frobenius.times_lengths.Goals as goal

pub overflow_mul-all : goal.overflow_mul-all
overflow_mul-all c =
    let next = length-next _ _ _ _ c.requires.within.1 (rw c.in-Some.ensures.steps at c.loop.invariant) in
    record { fits = omega (arith, next.1, c.requires.fits) }

pub loop-preserved : goal.loop-preserved
loop-preserved c = (length-next _ _ _ _ c.requires.within.1 (rw c.in-Some.ensures.steps at c.loop.invariant)).0

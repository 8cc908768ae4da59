-- The hook lines of the hooks passed and of those to come make the strip and the settled sum.
use Rattle.std.proofs.Common.{arith}
use Rattle.theory.proofs.ShapeWord.Good.{good-shape}
use Rattle.sessions.proofs.Strips.{long, strip-start, strip-end}
use Rattle.sessions.proofs.lines.strip.Goals as goal

pub loop-hook-init : goal.loop-hook-init
loop-hook-init c =
    let below = (good-shape _ c.requires.soundness.shape).below in
    rw (
      c.into_iter-hook-iterator.ensures.into_iter_gives,
      c.of-hook-items.ensures.hooks (long _ _ _ _ c.requires) (rw c.shape-shape.ensures (omega arith)),
      c.shape-shape.ensures,
    )
    (strip-start _ _ _ _ c.requires)

pub returns : goal.returns
returns c =
    strip-end _ _ _ _ c.requires _ _ _ (rw c.in-None.ensures.steps.0 at c.loop-hook.invariant)

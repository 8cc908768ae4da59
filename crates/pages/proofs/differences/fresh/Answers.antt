-- `pages::differences::fresh` meets its contract, step by step along the chain.
use Rattle.std.proofs.Common.{◌∙◌, arith}
use Rattle.pages.proofs.Chains.{walk-within, walk-room, link-before, walk-back, absent-back, not-absent}
use Rattle.pages.proofs.differences.fresh.Goals as goal

pub bounds-words-p : goal.bounds-words-p
bounds-words-p c = omega (arith, walk-within c.loop-p.invariant.walk)

pub returns-then-words-p : goal.returns-then-words-p
returns-then-words-p c =
    not-absent c.loop-p.invariant.walk c.loop-p-test.true c.if-words-p.true ∙ c.loop-p.invariant.absent

pub bounds-links-p : goal.bounds-links-p
bounds-links-p c = omega (arith, walk-room c.loop-p.invariant.walk)

pub loop-p-smaller : goal.loop-p-smaller
loop-p-smaller c = link-before c.loop-p.invariant.walk c.loop-p-test.true

pub loop-p-preserved : goal.loop-p-preserved
loop-p-preserved c = record {
  walk = walk-back c.loop-p.invariant.walk c.loop-p-test.true;
  absent = absent-back c.loop-p.invariant.walk c.loop-p-test.true c.if-words-p.false ∙ c.loop-p.invariant.absent;
}

pub offset_bounds-words-p : goal.offset_bounds-words-p
offset_bounds-words-p c = record { fits = omega (arith, walk-within c.loop-p.invariant.walk) }

pub offset_bounds-links-p : goal.offset_bounds-links-p
offset_bounds-links-p c = record { fits = omega (arith, walk-room c.loop-p.invariant.walk) }

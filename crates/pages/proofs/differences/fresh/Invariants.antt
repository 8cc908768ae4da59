-- The word is none of the words up to where the walk began where it is none of those up to where the walk is.
use Rattle.std.proofs.Common.{◌≡◌}
use Rattle.theory.specs.Basics.{take}
use Rattle.pages.specs.Private.Differences.{absent, Walk}
use Rattle.pages.proofs.differences.fresh.Given as goal

abbrev pub invariant-loop-p : goal.invariant-loop-p
invariant-loop-p l = record {
  walk : Walk l.words l.links l.word l.p;
  absent : absent l.word (take l.p l.words) ≡ absent l.word (take l.latest l.words);
}

abbrev pub decreases-loop-p : goal.decreases-loop-p
decreases-loop-p l = l.p

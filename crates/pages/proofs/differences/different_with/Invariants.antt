-- No two of the first i words are equal, and heads and links have their chains.
use Rattle.std.proofs.Common.{◌≡◌, length, take, true}
use Rattle.pages.specs.Private.Differences.{all_different, chain_of, Chained}
use Rattle.pages.proofs.differences.different_with.Given as goal

abbrev pub invariant-loop-i : goal.invariant-loop-i
invariant-loop-i l = record {
  chained : Chained (chain_of (length l.fn.heads)) l.words l.heads l.links l.i;
  different : all_different (take l.i l.words) ≡ true;
}

-- What the hook lines that are left make of words and weights as they are now is what all make of them as they were.
use Rattle.std.proofs.Common.{◌≡◌}
use Rattle.std.proofs.lemmas.List.Edits.{sets}
use Rattle.theory.specs.Basics.{map, drop}
use Rattle.gathered.specs.Private.Striking.{cleared, turned}
use Rattle.gathered.proofs.commits.weigh.Given as goal

abbrev pub invariant-loop-j : goal.invariant-loop-j
invariant-loop-j l = record {
  words : sets l.words l.j (map cleared (drop l.j l.hooks)) ≡ sets l.fn.words 0 (map cleared l.hooks);
  weights : sets l.weights l.j (map (turned l.coefficient) (drop l.j l.hooks))
      ≡ sets l.fn.weights 0 (map (turned l.coefficient) l.hooks);
}

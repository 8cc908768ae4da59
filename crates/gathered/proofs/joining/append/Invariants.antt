-- What the hook lines that are left make of page and column as they are now is what all make of them as they were.
use Rattle.std.proofs.Common.{◌≡◌, ◌+◌}
use Rattle.std.proofs.lemmas.List.Edits.{sets}
use Rattle.theory.specs.Basics.{length, drop}
use Rattle.gathered.specs.Private.Joining.{picked}
use Rattle.gathered.proofs.joining.append.Given as goal

abbrev pub invariant-loop-j : goal.invariant-loop-j
invariant-loop-j l = record {
  counted : l.next + length (picked l.none (drop l.j l.places) (drop l.j l.words))
      ≡ l.at + length (picked l.none l.places l.words);
  page : sets l.page l.next (picked l.none (drop l.j l.places) (drop l.j l.words))
      ≡ sets l.fn.page l.at (picked l.none l.places l.words);
  column : sets l.column l.next (picked l.none (drop l.j l.places) (drop l.j l.weights))
      ≡ sets l.fn.column l.at (picked l.none l.places l.weights);
}

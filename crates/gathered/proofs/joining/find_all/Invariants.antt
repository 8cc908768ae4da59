-- What the words that are left make of the places as they are now is what all make of them as they were.
use Rattle.std.proofs.Common.{◌≡◌}
use Rattle.std.proofs.lemmas.List.Edits.{sets}
use Rattle.theory.specs.Basics.{map, drop}
use Rattle.gathered.specs.Private.Joining.{place}
use Rattle.gathered.proofs.joining.find_all.Given as goal

abbrev pub invariant-loop-j : goal.invariant-loop-j
invariant-loop-j l =
    sets l.places l.j (map (place l.page) (drop l.j l.words)) ≡ sets l.fn.places 0 (map (place l.page) l.words)

-- No smaller number will do.
use Rattle.std.specs.Prelude.{◌≡◌, ◌*◌, ◌%◌, ◌<◌}
use Rattle.theory.specs.Basics.{ℕ}
use Rattle.words.proofs.classes.multiplier.Given as goal

abbrev pub invariant-loop-by : goal.invariant-loop-by
invariant-loop-by l = (j : ℕ) → 0 < j → j < l.by → l.number * j % l.part ≡ 0 → ⊥

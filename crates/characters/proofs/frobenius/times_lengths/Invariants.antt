use Rattle.std.proofs.Common.{◌≡◌, ◌*◌, ◌^◌}
use Rattle.theory.specs.Basics.{length}
use Rattle.theory.specs.Hooks.{hook_words}
use Rattle.characters.proofs.frobenius.times_lengths.Given as goal

-- the product so far, and a factor for each hook that is to come
abbrev pub invariant-loop : goal.invariant-loop
invariant-loop l = l.all * l.length ^ length l.iterator' ≡ l.product * l.length ^ length (hook_words l.length l.shape)

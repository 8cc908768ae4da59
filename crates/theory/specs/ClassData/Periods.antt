-- How the period is computed, part by part (document 02, P2).
--   multiplier n p    by how much n has to be multiplied so that p divides it: the first such of 1, 2, .., p
--   period_from n ps   n multiplied, at each of the parts ps in turn, by the multiplier of what has been reached
use Rattle.std.specs.Prelude.{◌∷◌, ◌*◌, ◌%◌}
use Rattle.theory.specs.Basics.{[], ℕ, ◌=?◌, keep, up_from}
use Rattle.theory.specs.Partition.{Parts, first}

abbrev pub multiplier : ℕ → ℕ → ℕ
multiplier n p = first (keep (λ k. n * k % p =? 0) (up_from 1 p))

abbrev pub period_from : ℕ → Parts → ℕ
period_from n [] = n
period_from n (p ∷ ps) = period_from (n * multiplier n p) ps

-- The table of factorials and its rule; and that up to the largest limit a factorial has room in 63 bits.
use Rattle.std.specs.Prelude.{◌∷◌, ◌^◌}
use mathlib.Core.Path.{◌≡◌, refl}
use Prim.Native.Nat.{◌≤◌, ◌<◌}
use native.Mathlib.Nat.{lt_of_le_of_lt}
use native.Mathlib.Omega.{arith}
use Rattle.theory.specs.Basics.{true, List, [], ℕ, get_or}
use Rattle.theory.specs.Basics.AtPlace.{tabled}
use Rattle.theory.proofs.Basics.AtPlace.{tabled-at}
use Rattle.theory.specs.Bounds.{factorial}
use Rattle.theory.specs.Bounds.Laws.{largest_limit}
use Rattle.theory.proofs.Bounds.Laws.{factorial-rises}
use Rattle.theory.specs.Limits.{degree_limit}

abbrev pub factorials : List ℕ
factorials =
    1 ∷ 1 ∷ 2 ∷ 6 ∷ 24 ∷ 120 ∷ 720 ∷ 5040 ∷ 40320 ∷ 362880 ∷ 3628800 ∷ 39916800 ∷ 479001600 ∷ 6227020800 ∷ 87178291200
    ∷ 1307674368000 ∷ 20922789888000 ∷ []

pub factorials-tabled : tabled factorial 0 factorials ≡ true
unfolding factorial
factorials-tabled = refl

pub factorial-at : (n : ℕ) → n ≤ degree_limit → get_or factorials n 0 ≡ factorial n
factorial-at n h = tabled-at factorial factorials n factorials-tabled (omega arith)

pub factorial-fits : (n : ℕ) → n ≤ largest_limit → factorial n < 2 ^ 63
unfolding factorial
factorial-fits n h = lt_of_le_of_lt (factorial-rises n largest_limit h) (omega arith)

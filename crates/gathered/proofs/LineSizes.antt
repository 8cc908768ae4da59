-- The sizes of weights: a line counts no more than all lines, and small lines have small numbers beside them.
use Rattle.std.specs.Prelude.{◌∷◌, ◌+◌, ◌^◌}
use mathlib.Core.Path.{◌≡◌}
use Prim.Native.Nat.{◌≤◌, ◌<◌}
use native.Mathlib.Omega.{arith}
use Rattle.theory.specs.Basics.{List, [], length, ℕ, zero, suc, ℤ, nat_abs, Each}
use Rattle.theory.proofs.Basics.Laws.{each_same}
use Rattle.pages.specs.Line.{Line}
use Rattle.pages.specs.Mode.{alongside}
use Rattle.pages.specs.Sound.{line_value}
use Rattle.pages.specs.Sound.Laws.{values}
use Rattle.gathered.specs.Private.Joining.{Small}

-- a line counts no more than all lines
pub value-within : (lines : List Line) → Each (λ l. line_value l ≤ values lines) lines
value-within [] = tt
value-within (l ∷ lines) = (
  omega arith,
  each_same _ (λ m. line_value m ≤ line_value l + values lines) lines (λ m p. omega arith) (value-within lines),
)

-- small numbers beside words
pub small-beside : (xs : List ℕ) (zs : List ℤ) → length xs ≡ length zs
    → Each (λ l. nat_abs l.weight < 2 ^ 58) (alongside xs zs) → Small 1 zs
small-beside [] [] e each i = omega arith
small-beside [] (z ∷ zs) e each i = absurd (omega arith)
small-beside (x ∷ xs) [] e each i = absurd (omega arith)
small-beside (x ∷ xs) (z ∷ zs) e each zero = omega (arith, each.0)
small-beside (x ∷ xs) (z ∷ zs) e each (suc i) = small-beside xs zs (omega arith) each.1 i

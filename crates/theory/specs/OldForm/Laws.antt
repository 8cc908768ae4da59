-- One shape in two forms (document 02, P5): each move keeps the partition and is undone by the other.
--   Passes checks w          no check of w refuses it
--   OneWord here there p q   of each word that passes: its move passes in the other form, gives by q what the word
--                            gives by p, and moves back to it; `here` is the checks of a form and the move from it,
--                            `there` those of the other form
use Rattle.std.specs.Prelude.{◌≡◌}
use Rattle.theory.specs.Basics.{List, ℕ}
use Rattle.theory.specs.Partition.{Parts}
use Rattle.theory.specs.Refusals.{Check, first_of}

abbrev pub Passes : (ℕ → List Check) → ℕ → Type 0
Passes checks w = first_of (checks w) ≡ 0

pub record OneWord (here there : (ℕ → List Check) × (ℕ → ℕ)) (p q : ℕ → Parts) : Type 0 where
  pub passes : (w : ℕ) → Passes here.0 w → Passes there.0 (here.1 w)
  pub keeps : (w : ℕ) → Passes here.0 w → q (here.1 w) ≡ p w
  pub back : (w : ℕ) → Passes here.0 w → there.1 (here.1 w) ≡ w

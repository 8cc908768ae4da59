-- What is found of the parts of a word, and of a part list.
--   Measured checks ps r        r gives the degree of the parts ps and how many they are, unless a check refuses
--   list_checks limit large ps   what a part list is refused by, where `large` refuses a degree above the limit
--   ListWithin limit ps         ps is a partition, and its degree is within the limit
use Rattle.std.specs.Prelude.{◌≡◌, ◌≤◌, ◌∷◌, IfOk}
use Rattle.theory.specs.Basics.{true, List, [], length, ℕ, ◌<?◌}
use Rattle.theory.specs.Partition.{Parts, is_partition, degree}
use Rattle.theory.specs.Refusals.{Check, first_of, no-3-list}
use Rattle.words.specs.declared.Measure.{Measure}
use Rattle.words.specs.Answers.{Result, Refusal, refusal_of}

pub record Measured (checks : List Check) (ps : Parts) (r : Result Measure Refusal) : Type 0 where
  pub refused : refusal_of r ≡ first_of checks
  pub given : IfOk r (λ m. (m.degree ≡ degree ps) × (m.count ≡ length ps))

abbrev pub list_checks : ℕ → ℕ → Parts → List Check
list_checks limit large ps = no-3-list ps ∷ (limit <? degree ps, large) ∷ []

pub record ListWithin (limit : ℕ) (ps : Parts) : Type 0 where
  pub partition : is_partition ps ≡ true
  pub small : degree ps ≤ limit

-- Sets for simp of the whole numbers as a group; what they hold is of the library.
--   sums, signed-sums   sets for simp: sums are bracketed to the right and sorted; signs go inwards
use Rattle.std.specs.Prelude.{◌≡◌, ◌+ℤ◌}
use Rattle.std.proofs.Common.{sym, ◌∙◌, ap}
use Rattle.std.proofs.Math.IntN.{+ℤ_assoc, +ℤ_comm, neg_ℤ-+ℤ, neg_ℤ-neg_ℤ}
use Rattle.theory.specs.Basics.{ℤ}

pub swap-front : (a b c : ℤ) → a +ℤ (b +ℤ c) ≡ b +ℤ (a +ℤ c)
swap-front a b c = sym (+ℤ_assoc a b c) ∙ ap (λ x. x +ℤ c) (+ℤ_comm a b) ∙ +ℤ_assoc b a c

pub ruleset sums = (+ℤ_assoc, +ℤ_comm, swap-front)

pub ruleset signed-sums = (sums, neg_ℤ-+ℤ, neg_ℤ-neg_ℤ)

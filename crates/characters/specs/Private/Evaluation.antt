-- What the private functions of evaluation are asked.
--   Evaluable limit shape cycles   a good shape word, and the cycles of a class of the same degree within the limit
--   hook_sum value h w              the signed sum over the hooks of length h of the word w, each the value of what it
--                                  leaves
use Rattle.std.specs.Prelude.{◌≡◌, ◌≤◌}
use Rattle.theory.specs.Basics.{true, ℕ, ℤ, sum, signed}
use Rattle.theory.specs.Partition.{Parts, degree}
use Rattle.theory.specs.Partition.Laws.{NoZero}
use Rattle.theory.specs.ShapeWord.{shape_of, good_shape}
use Rattle.theory.specs.Hooks.{hook_words}

pub record Evaluable (limit shape : ℕ) (cycles : Parts) : Type 0 where
  pub good : good_shape shape ≡ true
  pub no_zero : NoZero cycles
  pub degrees : degree (shape_of shape) ≡ degree cycles
  pub small : degree cycles ≤ limit

unfoldable pub hook_sum : (ℕ → ℤ) → ℕ → ℕ → ℤ
hook_sum value h w = sum (λ hook. signed hook.minus (value hook.leaves)) (hook_words h w)

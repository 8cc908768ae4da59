-- Sums over lines, or over anything: no larger in size than what is counted for each.
--   weight_of l   the weight of a line
use Rattle.std.specs.Prelude.{◌≡◌, ◌≤◌, ◌∷◌, ◌*◌}
use Rattle.std.proofs.Common.{mul-zero, arith}
use Rattle.theory.specs.Basics.{List, [], map, ℕ, ℤ, nat_abs, total, sum, Each}
use Rattle.theory.proofs.Bounds.Laws.{abs-add}
use Rattle.pages.specs.Line.{Line}

abbrev pub weight_of : Line → ℤ
weight_of l = l.weight

module _ {A : Type 0} where
  pub sum-within : (f : A → ℤ) (g : A → ℕ) (xs : List A) → Each (λ x. nat_abs (f x) ≤ g x) xs
      → nat_abs (sum f xs) ≤ total (map g xs)
  sum-within f g [] e = omega arith
  sum-within f g (x ∷ xs) e = omega (arith, abs-add (f x) (sum f xs), e.0, sum-within f g xs e.1)

  pub total-scaled : (k : ℕ) (f : A → ℕ) (xs : List A) → total (map (λ x. k * f x) xs) ≡ k * total (map f xs)
  total-scaled k f [] = omega (arith, mul-zero k)
  total-scaled k f (x ∷ xs) = omega (arith, total-scaled k f xs)

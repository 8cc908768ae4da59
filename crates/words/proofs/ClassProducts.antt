-- A loop that multiplies while it goes through the parts of a class word: with the parts `left` before it, its product
-- is at most the factorial of the degree that the largest limit leaves to those behind it, so there is room.
--   Multiplying left product   such a loop, where the parts `left` are to be read
--   Factor rest product        what a turn of it finds that leaves the parts `rest`: room for a factor within the
--                              degree that is then left
use Rattle.std.specs.Prelude.{◌≡◌, ◌≤◌, ◌<◌, ◌∷◌, ◌-◌, ◌*◌, ◌^◌}
use Rattle.std.proofs.Common.{ap, arith}
use Rattle.theory.specs.Basics.{ℕ}
use Rattle.theory.specs.Partition.{Parts, degree}
use Rattle.theory.proofs.ClassData.Laws.{factor-room}
use Rattle.theory.specs.Bounds.{factorial}
use Rattle.theory.specs.Bounds.Laws.{largest_limit}
use Rattle.theory.proofs.Bounds.Laws.{factorial-positive}
use Rattle.words.proofs.Factorials.{factorial-fits}

pub record Multiplying (left : Parts) (product : ℕ) : Type 0 where
  pub small : degree left ≤ largest_limit
  pub bound : product ≤ factorial (largest_limit - degree left)

pub record Factor (rest : Parts) (product : ℕ) : Type 0 where
  pub fits : (k : ℕ) → k ≤ largest_limit - degree rest → product * k < 2 ^ 63
  pub again : (k x : ℕ) → k ≤ largest_limit - degree rest → x ≡ product * k → Multiplying rest x

pub start_multiplying : (ps : Parts) {left : Parts} → left ≡ ps → degree ps ≤ largest_limit → Multiplying left 1
start_multiplying ps {left} e h = record {
  small = omega (arith, ap degree e);
  bound = factorial-positive (largest_limit - degree left);
}

pub factor : {p product : ℕ} {left rest : Parts} → left ≡ p ∷ rest → 0 < p → Multiplying left product
    → Factor rest product
factor {p} {product} {left} {rest} e some m =
    let d = ap degree e in
    let z : ℕ = largest_limit - degree rest in
    let grown : (k : ℕ) → k ≤ z → product * k ≤ factorial z =
    λ k h. factor-room (largest_limit - degree left) z k product (omega (arith, m.small)) h m.bound in
    record {
      fits = λ k h. omega (arith, grown k h, factorial-fits z (omega arith));
      again = λ k x h q. record { small = omega (arith, m.small); bound = omega (arith, grown k h) };
    }

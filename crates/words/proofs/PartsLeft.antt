-- A loop over the parts of a word: what is known of the next part, and of all of them.
use Rattle.std.specs.Prelude.{◌≡◌, ◌∷◌, ◌≤◌, ◌<◌}
use Rattle.std.proofs.Common.{arith}
use Rattle.theory.specs.Basics.{true, false, [], ℕ, suc, length}
use Rattle.theory.specs.Partition.{Parts, degree}
use Rattle.theory.specs.Partition.Laws.{NoZero, some}
use Rattle.theory.specs.Digits.{Digits, digits}
use Rattle.theory.proofs.Digits.Laws.{length_digits}
use Rattle.theory.specs.ClassWord.{parts_after, class_of}
use Rattle.theory.proofs.ClassWord.Laws.{parts-no-zero, degree-parts}

-- no part is 0, and none goes beyond the digits
positive : {p : ℕ} {ps : Parts} → NoZero (p ∷ ps) → 0 < p
positive (some n) = omega arith

pub part-positive : (w : ℕ) {p : ℕ} {rest : Parts} → class_of w ≡ p ∷ rest → 0 < p
part-positive w e = positive (rw e at (parts-no-zero 0 (digits 31 w)))

pub parts-room : (w : ℕ) → degree (class_of w) ≤ 31
parts-room w = omega (arith, degree-parts 0 (digits 31 w), length_digits 31 w)

length-parts : (z : ℕ) (ds : Digits) → length (parts_after z ds) ≤ length ds
length-parts z [] = omega arith
length-parts z (false ∷ ds) = omega (arith, length-parts (suc z) ds)
length-parts z (true ∷ ds) = omega (arith, length-parts 0 ds)

pub few-parts : (w : ℕ) → length (class_of w) ≤ 31
few-parts w = omega (arith, length-parts 0 (digits 31 w), length_digits 31 w)

-- The class (1^n) of the identity: n parts 1, a word of n ones in front.
use Rattle.std.specs.Prelude.{◌≡◌, refl, ◌≤◌, ◌+◌, ◌-◌, ◌^◌}
use Rattle.std.proofs.Common.{zero-add, suc-add, arith}
use Rattle.theory.specs.Basics.{true, ℕ, zero, suc, replicate}
use Rattle.theory.specs.Partition.{first, is_partition, degree}
use Rattle.theory.specs.Partition.Laws.{NoZero, none, some}
use Rattle.theory.proofs.Partition.Laws.{in-front}
use Rattle.theory.specs.Digits.{word, width}
use Rattle.theory.proofs.Digits.Laws.{word_none}
use Rattle.theory.specs.ClassWord.{class_digits, class_word}
use Rattle.theory.specs.ClassWord.Laws.{Held}

pub ones-degree : (n : ℕ) → degree (replicate n 1) ≡ n
ones-degree zero = refl
ones-degree (suc n) = omega (arith, ones-degree n)

pub ones-no-zero : (n : ℕ) → NoZero (replicate n 1)
ones-no-zero zero = none
ones-no-zero (suc n) = some (ones-no-zero n)

ones-partition : (n : ℕ) → is_partition (replicate n 1) ≡ true
ones-partition zero = refl
ones-partition (suc n) =
    in-front {ps = replicate n 1} (record { positive = omega arith; falls = falls n; rest = ones-partition n })
  where
    falls : (n : ℕ) → first (replicate n 1) ≤ 1
    falls zero = omega arith
    falls (suc n) = omega arith

pub ones-held : (n : ℕ) → n ≤ width → Held (replicate n 1)
ones-held n l = record { partition = ones-partition n; room = omega (arith, ones-degree n) }

ones-front : (n m : ℕ) → word (n + m) (class_digits (replicate n 1)) + 2 ^ m ≡ 2 ^ (n + m)
unfolding word
ones-front zero m = rw zero-add (omega (arith, word_none m))
ones-front (suc n) m = rw suc-add (omega (arith, ones-front n m))

-- the word of (1^n), its last one added once more, is 2^31
pub ones-word : (n : ℕ) → n ≤ width → class_word (replicate n 1) + 2 ^ (width - n) ≡ 2 ^ width
ones-word n l =
    let e : n + (width - n) ≡ width = omega arith in
    rw e at (ones-front n (width - n))

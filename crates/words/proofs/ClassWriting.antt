-- A loop that writes a class word part by part, from its first digit on.
--   Writing w left bits ps             `bits`, and the parts ps that are not written yet in the `left` last digits,
--                                      make the word w
--   PartWritten w left bits p b rest   a turn of the loop writes the part p, before the parts `rest`, by the bit b
use Rattle.std.specs.Prelude.{◌∷◌, ◌+◌, ◌-◌, ◌*◌, ◌%◌, ◌^◌}
use mathlib.Core.Path.{◌≡◌, ap}
use Prim.Native.Nat.{◌≤◌, ◌<◌}
use native.Mathlib.Omega.{arith}
use Rattle.theory.specs.Basics.{true, [], ℕ}
use Rattle.theory.specs.Partition.{Parts, is_partition, degree}
use Rattle.theory.proofs.Partition.Laws.{front}
use Rattle.theory.specs.Digits.{word}
use Rattle.theory.proofs.Digits.Laws.{one_shifted, word_none}
use Rattle.theory.specs.ClassWord.{class_digits, class_word}
use Rattle.theory.proofs.ClassWord.Laws.{class-word-front}

pub record Writing (w left bits : ℕ) (ps : Parts) : Type 0 where
  pub partition : is_partition ps ≡ true
  pub room : degree ps ≤ left
  pub digits : left ≤ 31
  pub whole : w ≡ bits + word left (class_digits ps)

pub start_writing : (ps : Parts) {rs : Parts} → rs ≡ ps → is_partition ps ≡ true → degree ps ≤ 31
    → Writing (class_word ps) 31 0 rs
start_writing ps e f h = rw e (record { partition = f; room = h; digits = omega arith; whole = omega arith })

pub record PartWritten (w left bits p b : ℕ) (rest : Parts) : Type 0 where
  pub some : 0 < p
  pub fits : p ≤ left
  pub within : bits + b ≤ w
  pub again : Writing w (left - p) (bits + b) rest

pub part-written : {w left bits p : ℕ} {ps rest : Parts} → Writing w left bits ps → ps ≡ p ∷ rest
    → PartWritten w left bits p (1 * 2 ^ (left - p) % 2 ^ 32) rest
part-written {w} {left} {bits} {p} {ps} {rest} v e =
    let f = front p rest (rw e at v.partition) in
    let room : p + degree rest ≤ left = rw e at v.room in
    let wrote = class-word-front left p rest f.positive (omega arith) in
    let whole : w ≡ bits + (2 ^ (left - p) + word (left - p) (class_digits rest)) =
    rw (e, wrote) at v.whole in
    rw (one_shifted 32 (left - p) (omega (arith, v.digits)))
    (record {
      some = f.positive;
      fits = omega arith;
      within = omega arith;
      again =
          record { partition = f.rest; room = omega arith; digits = omega (arith, v.digits); whole = omega arith };
    })

pub all-written : {w left bits : ℕ} {ps : Parts} → Writing w left bits ps → ps ≡ [] → bits ≡ w
all-written {left = left} v e =
    omega (arith, v.whole, ap (λ (ps : Parts). word left (class_digits ps)) e, word_none left)

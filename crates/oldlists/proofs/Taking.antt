-- The rows of a shape taken out of a run of ones, one after the other, until its new word is left.
--   Taking w last left bits ps       `bits` has ones in all the `left` last digits and one more at the end; of these
--                                    the rows ps behind the row `last` take their zeros, and w is made
--   ZeroTaken w last left bits r b rs   the row r, before the rows rs, takes its zero b
--   AllTaken w last left bits b      without a row the digits b behind the last one go
use Rattle.std.specs.Prelude.{◌≡◌, ◌≤◌, ◌<◌, ◌∷◌, ◌+◌, ◌-◌, ◌*◌, ◌%◌, ◌^◌}
use Rattle.std.proofs.Common.{arith}
use Rattle.theory.specs.Basics.{true, [], ℕ, suc, length}
use Rattle.theory.specs.Partition.{Parts, first, is_partition}
use Rattle.theory.proofs.Partition.Laws.{front}
use Rattle.theory.specs.Digits.{word}
use Rattle.theory.proofs.Digits.Laws.{one_shifted, word_below}
use Rattle.theory.proofs.ShapeWord.Reading.{behind, row-behind, none-behind}

pub record Taking (w last left bits : ℕ) (ps : Parts) : Type 0 where
  pub partition : is_partition ps ≡ true
  pub falls : first ps ≤ last
  pub room : length ps + last ≤ left
  pub digits : left ≤ 31
  pub whole : w + 2 ^ left ≡ bits + word left (behind last ps)

pub record ZeroTaken (w last left bits r b : ℕ) (rs : Parts) : Type 0 where
  pub falls : r ≤ last
  pub fits : last - r < left
  pub takes : b ≤ bits
  pub again : Taking w r (left - (last - r) - 1) (bits - b) rs

pub zero-taken : {w last left bits r : ℕ} {ps rs : Parts} → Taking w last left bits ps → ps ≡ r ∷ rs
    → ZeroTaken w last left bits r (1 * 2 ^ (left - (last - r) - 1) % 2 ^ 32) rs
zero-taken {w} {last} {left} {bits} {r} {ps} {rs} v e =
    let f = front r rs (rw e at v.partition) in
    let falls : r ≤ last = rw e at v.falls in
    let room : suc (length rs) + last ≤ left = rw e at v.room in
    let fits : last - r < left = omega arith in
    let m : ℕ = left - (last - r) - 1 in
    let whole : w + 2 ^ left ≡ bits + word left (behind last (r ∷ rs)) = rw e at v.whole in
    let row = row-behind left last r rs falls fits in
    let below = word_below m (behind r rs) in
    rw (one_shifted 32 m (omega (arith, v.digits)))
    (record {
      falls = falls;
      fits = fits;
      takes = omega arith;
      again = record {
        partition = f.rest;
        falls = f.falls;
        room = omega arith;
        digits = omega (arith, v.digits);
        whole = omega arith;
      };
    })

pub record AllTaken (w last left bits b : ℕ) : Type 0 where
  pub fits : last ≤ left
  pub bit : left - last < 32
  pub takes : b ≤ bits
  pub whole : bits - b ≡ w

pub all-taken : {w last left bits : ℕ} {ps : Parts} → Taking w last left bits ps → ps ≡ []
    → AllTaken w last left bits (1 * 2 ^ (left - last) % 2 ^ 32)
all-taken {w} {last} {left} {bits} v e =
    let room : 0 + last ≤ left = rw e at v.room in
    let whole : w + 2 ^ left ≡ bits + word left (behind last []) = rw e at v.whole in
    let none = none-behind left last (omega arith) in
    let bit : left - last < 32 = omega (arith, v.digits) in
    rw (one_shifted 32 (left - last) bit)
    (record { fits = omega arith; bit = bit; takes = omega arith; whole = omega arith })

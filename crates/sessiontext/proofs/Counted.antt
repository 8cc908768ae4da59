-- How long a list of parts is: only its first part can have two digits. What a word tells of its parts' number and the
-- first of them.
use Rattle.std.specs.Prelude.{◌∷◌, ◌++◌, ◌+◌, ◌-◌, ◌*◌, ◌^◌}
use mathlib.Core.Path.{◌≡◌, refl, sym, ◌∙◌, ap, ap₂}
use Prim.Native.Nat.{◌≤◌, ◌<◌}
use native.Mathlib.Decide.{dec_le}
use native.Mathlib.Nat.{lt_of_not-le, pos_of_ne-zero}
use native.Mathlib.Omega.{arith}
use lib.Count
use lib.ListN.{length-append}
use borrow.Author.Tests.{lt-ltb, le-ltb}
use Rattle.theory.specs.Basics.{true, false, [], map, ℕ, suc, length, joined}
use Rattle.theory.specs.Partition.{Parts, is_partition, first}
use Rattle.theory.proofs.Partition.Laws.{front, first-degree, length-degree}
use Rattle.theory.specs.Digits.{Digits, digits, ones, width}
use Rattle.theory.proofs.Digits.Low.{trailing-more}
use Rattle.theory.specs.ShapeWord.{rows, shape_of}
use Rattle.theory.proofs.ShapeWord.Reading.{ones-digits, first-digit}
use Rattle.theory.proofs.ShapeWord.Counts.{rows-trailing, rows-of-zero}
use Rattle.theory.specs.ClassWord.{parts_after, class_of}
use Rattle.theory.proofs.ClassWord.Laws.{parts_none}
use Rattle.theory.proofs.ClassWord.Reading.{FirstPart, first_part}
use Rattle.theory.specs.Limits.{degree_limit}
use Rattle.theory.specs.Refusals.Laws.{Within, WithinClass}
use Rattle.text.specs.Text.{ascii, decimal, commas, list_text}
use Rattle.text.specs.Text.Decimals.{one-digit, two_digits}
use Rattle.sessiontext.specs.Reading.Forms.{InLimit}
use Rattle.sessiontext.specs.Reading.Fields.{shape-in, class-in}
use Rattle.sessiontext.specs.Private.Lengths.{list_length}

pub small : degree_limit < width
small = omega arith

behind-counted : (ps : Parts) → is_partition ps ≡ true → first ps < 10
    → length (joined (λ u. ascii "," ++ u) (map decimal ps)) ≡ 2 * length ps
behind-counted [] e h = refl
behind-counted (p ∷ ps) e h =
    let f = front p ps e in
    let rest = behind-counted ps f.rest (omega (arith, f.falls)) in
    let one = ap length (one-digit p h) in
    simp length-append (omega arith)

list_counted : (ps : Parts) → InLimit degree_limit ps → 0 < length ps → list_length (length ps) (first ps) ≡ length
    (list_text ps)
unfolding commas
list_counted [] i n = absurd (omega arith)
list_counted (p ∷ ps) i n =
    let f = front p ps i.partition in
    elim (dec_le 10 p) [
      | yes l ↦
          let rest = behind-counted ps f.rest (omega (arith, first-degree ps, i.small)) in
          let two = ap length (two_digits p l (omega (arith, i.small))) in
          rw (le-ltb p 10 l) (simp length-append (omega arith))
      | no g ↦
          let h = lt_of_not-le g in
          let rest = behind-counted ps f.rest (omega (arith, f.falls)) in
          let one = ap length (one-digit p h) in
          rw (lt-ltb p 10 h) (simp length-append (omega arith))
    ]

-- ---- shapes
pub no_rows : {w : ℕ} → w ≡ 0 → 0 ≡ length (list_text (shape_of w))
unfolding commas
no_rows e = rw (e, rows-of-zero 31) refl

module _ {w : ℕ} (s : Within degree_limit w) (some : w ≡ 0 → ⊥) where
  shape-below : w < 2 ^ 31
  shape-below = omega (arith, s.good.below)

  pub shape-digits : length (shape_of w) + Count.ones w + Count.count_trailing_zeros 32 w ≡ 31
  shape-digits =
      rw (trailing-more 31 w (pos_of_ne-zero some) shape-below, ← ones-digits 31 w shape-below) (rows-trailing 31 w)

  shape-rows : shape_of w ≡ ones (digits 31 w) ∷ rows (digits 30 w)
  shape-rows = (first-digit 31 w some shape-below).zero-rows s.good.below

  pub shape-some : 0 < length (shape_of w)
  shape-some = omega (arith, ap length shape-rows)

  pub shape-counted : {count : ℕ} → count ≡ 31 - Count.count_trailing_zeros 32 w - Count.ones w
      → list_length count (Count.ones w) ≡ length (list_text (shape_of w))
  shape-counted {count} e =
      let rows : count ≡ length (shape_of w) = omega (arith, shape-digits) in
      let longest : Count.ones w ≡ first (shape_of w) = sym (ap first shape-rows ∙ ones-digits 31 w shape-below) in
      ap₂ list_length rows longest ∙ list_counted (shape_of w) (shape-in degree_limit small s) shape-some

-- ---- classes
ones-counted : (z : ℕ) (ds : Digits) → length (parts_after z ds) ≡ ones ds
ones-counted z [] = refl
ones-counted z (true ∷ ds) = ap suc (ones-counted 0 ds)
ones-counted z (false ∷ ds) = ones-counted (suc z) ds

pub no-cycles : {w : ℕ} → w ≡ 0 → 0 ≡ length (list_text (class_of w))
unfolding commas
no-cycles e = rw (e, parts_none 0 31) refl

module _ {w : ℕ} (c : WithinClass degree_limit w) (some : w ≡ 0 → ⊥) where
  class-parts : FirstPart 31 w (Count.count_leading_zeros 32 w)
  class-parts = first_part 31 w (pos_of_ne-zero some) c.good.below

  pub class-some : Count.ones w ≡ length (class_of w)
  class-some = sym (ones-counted 0 (digits 31 w) ∙ ones-digits 31 w c.good.below)

  pub class-few : (0 < length (class_of w)) × (length (class_of w) ≤ 16)
  class-few = (
    omega (arith, ap length class-parts.reads),
    omega (arith, c.small, length-degree (class_of w) c.good.partition),
  )

  pub class-counted : list_length (Count.ones w) (Count.count_leading_zeros 32 w) ≡ length (list_text (class_of w))
  class-counted =
      ap₂ list_length class-some (sym (ap first class-parts.reads))
      ∙ list_counted (class_of w) (class-in degree_limit small c) class-few.0

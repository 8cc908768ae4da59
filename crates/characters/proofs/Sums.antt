-- A loop that sums the signed characters of lines, in any mode: what has been summed and what is left come to the
-- whole.
--   Summing i z      z is the sum of the first i of them
--   NextLine i z l   the next of them, l, is sound, has room, and keeps the sum going
use Rattle.std.specs.Prelude.{◌∷◌, ◌+◌, ◌^◌, ◌+ℤ◌}
use mathlib.Core.Path.{◌≡◌, sym, ◌∙◌}
use Prim.Native.Nat.{◌≤◌, ◌<◌}
use native.Mathlib.Numerals.{add-one}
use native.Mathlib.Omega.{arith}
use lib.IntN.{+ℤ_idl, +ℤ_idr, +ℤ_assoc}
use lib.ListN.{drop_of_length-le}
use lib.Seq.{drop-cons}
use Rattle.theory.specs.Basics.{List, length, drop, ℕ, ℤ, pos, nat_abs, sum, Each}
use Rattle.theory.proofs.Bounds.Laws.{abs-add}
use Rattle.pages.specs.Line.{Line, signed_character}
use Rattle.pages.specs.Page.{line_of, line_at}
use Rattle.pages.specs.Sound.{line_value}
use Rattle.pages.specs.Sound.Laws.{SoundLine, values}
use Rattle.pages.specs.Sound.Bounds.{line-bounded}
use Rattle.pages.proofs.Signed.{carried, carried-is}

module _ (limit : ℕ) (lines : List Line) where
  pub record Summing (i : ℕ) (z : ℤ) : Type 0 where
    pub within : i ≤ length lines
    pub each : Each (SoundLine limit) (drop i lines)
    pub comes : z +ℤ sum signed_character (drop i lines) ≡ sum signed_character lines
    pub budget : nat_abs z + values (drop i lines) ≤ values lines

  pub record NextLine (i : ℕ) (z : ℤ) (l : Line) : Type 0 where
    pub soundness : SoundLine limit l
    pub room : nat_abs z + line_value l < 2 ^ 63
    pub again : Summing (i + 1) (carried (z +ℤ signed_character l))

  module _ (each : Each (SoundLine limit) lines) (small : values lines < 2 ^ 63) where
    pub sum-start : Summing 0 (pos 0)
    sum-start = record { within = omega arith; each = each; comes = +ℤ_idl _; budget = omega arith }

    pub sum-next : (i : ℕ) (z : ℤ) → Summing i z → i < length lines → (l : Line) → line_at lines i ≡ l → NextLine i z l
    sum-next i z s h l is =
        let next : drop i lines ≡ l ∷ drop (i + 1) lines = rw (add-one, drop-cons lines i (line_of 0) h, is) in
        let (sound-l, rest) = rw next at s.each in
        let budget = rw next at s.budget in
        let bound = line-bounded sound-l in
        let grows = abs-add z (signed_character l) in
        record {
          soundness = sound-l;
          room = omega arith;
          again = rw (carried-is (z +ℤ signed_character l) (omega arith))
              (record {
                within = omega arith;
                each = rest;
                comes = +ℤ_assoc z (signed_character l) _ ∙ (rw next at s.comes);
                budget = omega arith;
              });
        }

    pub sum-end : (i : ℕ) (z : ℤ) → Summing i z → length lines ≤ i → z ≡ sum signed_character lines
    sum-end i z s h = sym (+ℤ_idr z) ∙ rw (drop_of_length-le lines h) at s.comes

-- The signed character of a page's word, which has room in 64 bits.
use Rattle.std.specs.Prelude.{◌+◌, ◌^◌, ◌+ℤ◌, ◌*ℤ◌}
use mathlib.Core.Path.{◌≡◌, sym, ◌∙◌}
use Prim.Native.Nat.{◌<◌}
use native.Mathlib.Nat.{one-mul}
use native.Mathlib.Omega.{arith}
use lib.IntN.{*ℤ_comm}
use Rattle.theory.specs.Basics.{Bool, ℕ, ℤ, pos, nat_abs, signed}
use Rattle.theory.proofs.Basics.Integers.Products.{times-one, times-signed}
use Rattle.theory.specs.Digits.{bit, digits, width}
use Rattle.theory.specs.ShapeWord.{shape_of}
use Rattle.theory.specs.ClassWord.{class_of}
use Rattle.theory.proofs.ClassWord.Laws.{good-class, parts-no-zero}
use Rattle.theory.specs.Character.{◌on◌}
use Rattle.theory.specs.Bounds.{factorial}
use Rattle.theory.specs.Bounds.Laws.{largest_limit}
use Rattle.theory.proofs.Bounds.Laws.{abs-add}
use Rattle.pages.specs.Line.{Line, line_degree, signed_character}
use Rattle.pages.specs.Page.{line_of}
use Rattle.pages.specs.Page.Words.{unit-weight}
use Rattle.pages.specs.Sound.{line_value}
use Rattle.pages.specs.Sound.Laws.{SoundLine}
use Rattle.pages.specs.Sound.Bounds.{character-within, line-bounded}
use Rattle.pages.proofs.Signed.{carried, carried-is}
use Rattle.characters.specs.Private.Evaluation.{Evaluable}
use Rattle.characters.proofs.Walks.{character-carried}

module _ {limit : ℕ} {l : Line} (s : SoundLine limit l) where
  pub class-below : l.class < 2 ^ width
  class-below = (good-class l.class s.class).below

  pub line-evaluable : Evaluable limit l.shape (class_of l.class)
  line-evaluable = record {
    good = s.shape;
    no_zero = parts-no-zero 0 (digits width l.class);
    degrees = s.degrees;
    small = omega (arith, s.degrees, s.within);
  }

-- a page's word counts its d! once
pub word_value : (x : ℕ) → line_value (line_of x) ≡ factorial (line_degree (line_of x))
word_value x = rw (unit-weight x) (one-mul (factorial (line_degree (line_of x))))

unit-times : (minus : Bool) (z : ℤ) → signed minus (pos 1) *ℤ z ≡ signed minus z
unit-times minus z = sym (times-signed minus (pos 1) z) ∙ *ℤ_comm (pos 1) (signed minus z) ∙ times-one (signed minus z)

module _ (x : ℕ) (s : SoundLine largest_limit (line_of x)) (z : ℤ) (room : nat_abs z + line_value (line_of x) < 2 ^ 63) where
  abbrev number : ℤ
  number = shape_of (line_of x).shape on class_of (line_of x).class

  pub value_room : nat_abs (carried z) + nat_abs (carried number) < 2 ^ 63
  value_room =
      rw (carried-is z (omega arith), character-carried (line-evaluable s))
      (omega (arith, word_value x, character-within s))

  pub value-added : carried (carried z +ℤ signed (bit 63 x) (carried number)) ≡ z +ℤ signed_character (line_of x)
  unfolding signed_character
  value-added =
      let bound = line-bounded s in
      rw (carried-is z (omega arith), character-carried (line-evaluable s), ← unit-times (bit 63 x) number)
      (carried-is (z +ℤ signed_character (line_of x)) (omega (arith, abs-add z (signed_character (line_of x)))))

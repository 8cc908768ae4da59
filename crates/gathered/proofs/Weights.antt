-- A line's coefficient times its character, in 64 bits: both have room, as has a sum with them.
use Rattle.std.specs.Prelude.{◌*◌, ◌^◌, ◌*ℤ◌}
use mathlib.Core.Path.{◌≡◌, ◌∙◌, ap, ap₂}
use Prim.Native.Nat.{◌≤◌, ◌<◌}
use native.Mathlib.Omega.{arith}
use Rattle.theory.specs.Basics.{ℕ, ℤ, pos, nat_abs}
use Rattle.theory.proofs.Basics.Integers.Products.{abs-times}
use Rattle.theory.specs.Bounds.Laws.{largest_limit}
use Rattle.theory.specs.ShapeWord.{shape_of}
use Rattle.theory.proofs.ShapeWord.Good.{good-shape}
use Rattle.theory.specs.ClassWord.{class_of}
use Rattle.theory.proofs.ClassWord.Laws.{good-class}
use Rattle.theory.specs.Character.{◌on◌}
use Rattle.theory.specs.Refusals.{first_of, pair_checks}
use Rattle.theory.proofs.Refusals.Laws.{or-given, pair-passes}
use Rattle.words.specs.Answers.{number_answer}
use Rattle.words.specs.Answers.{NumberAnswer}
use Rattle.words.proofs.Factorials.{factorial-fits}
use Rattle.pages.specs.Line.{Line, line_degree, signed_character}
use Rattle.pages.specs.Page.{line_of}
use Rattle.pages.specs.Mode.{weighted}
use Rattle.pages.specs.Sound.{line_value}
use Rattle.pages.specs.Sound.Laws.{SoundLine}
use Rattle.pages.specs.Sound.Bounds.{weight-counted, character-within, line-bounded}
use Rattle.pages.proofs.Signed.{carried, carried-is}
use Rattle.characters.specs.Calls.{character_of}
use Rattle.gathered.proofs.Alone.{own_line}

-- ---- a coefficient
pub weight-carried : (l : Line) → line_value l < 2 ^ 63 → carried l.weight ≡ l.weight
weight-carried l room = carried-is l.weight (omega (arith, weight-counted l))

-- ---- a coefficient times a character
module _ {limit : ℕ} (x : ℕ) (z : ℤ) (s : SoundLine limit (weighted x z)) (room : line_value (weighted x z) < 2 ^ 63)
  where
    abbrev line : Line
    line = weighted x z

    signed-carried : carried (signed_character line) ≡ signed_character line
    signed-carried = carried-is (signed_character line) (omega (arith, line-bounded s))

    -- a coefficient that is read from a column and handed on
    pub handed-sound : SoundLine limit (weighted x (carried z)) × (line_value (weighted x (carried z)) < 2 ^ 63)
    handed-sound = rw (weight-carried line room) (s, room)

    pub handed-carried : (r : ℤ) → r ≡ signed_character (weighted x (carried z)) → carried r ≡ signed_character line
    handed-carried r e =
        ap carried (e ∙ ap (λ w. signed_character (weighted x w)) (weight-carried line room)) ∙ signed-carried

    -- ---- the character, as the call answers it
    module _ (small : limit ≤ largest_limit) (shape class : ℕ) (its_shape : shape ≡ (line_of x).shape)
        (its-class : class ≡ (line_of x).class) (a : NumberAnswer) (e : a ≡ character_of limit shape class) where
      abbrev number : ℤ
      number = shape_of line.shape on class_of line.class

      given : a ≡ number_answer 0 number
      unfolding character_of
      given =
          let same : (line_of x).shape ≡ line.shape = ap (λ (l : Line). l.shape) (own_line x z s) in
          let none : first_of (pair_checks limit line.shape line.class) ≡ 0 =
          pair-passes
          (record {
            shape = record { good = good-shape line.shape s.shape; small = s.within };
            class = record {
              good = good-class line.class s.class;
              small = omega (arith, s.within, s.degrees);
            };
            degrees = s.degrees;
          }) in
          e ∙ rw (its_shape ∙ same, its-class) (or-given (λ k. number_answer k (pos 0)) _ _ none)

      pub unrefused : a.refused ≡ 0
      unrefused = ap (λ (k : NumberAnswer). k.refused) given

      gives : a.number ≡ number
      gives = ap (λ (k : NumberAnswer). k.number) given

      number-carried : carried a.number ≡ number
      number-carried =
          ap carried gives
          ∙ carried-is number
          (omega (arith, character-within s, factorial-fits (line_degree line) (omega (arith, s.within))))

      pub product-room : nat_abs (carried z) * nat_abs (carried a.number) < 2 ^ 63
      unfolding signed_character
      product-room =
          rw (weight-carried line room, number-carried)
          (omega (arith, line-bounded s, abs-times z number))

      pub product_is : (r : ℤ) → r ≡ carried z *ℤ carried a.number → carried r ≡ signed_character line
      unfolding signed_character
      product_is r is =
          let whole : carried z *ℤ carried a.number ≡ z *ℤ number =
          ap₂ ◌*ℤ◌ (weight-carried line room) number-carried in
          ap carried (is ∙ whole) ∙ signed-carried

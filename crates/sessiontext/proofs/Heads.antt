-- The first six lines of a text: where they start and end, and what the readers of each tell together.
--   Six text a b c d e f   the six lines end at these places
use Rattle.std.specs.Prelude.{◌+◌, ◌-◌, ◌^◌, ◌≢◌}
use mathlib.Core.Path.{◌≡◌, refl, sym, ◌∙◌, ap}
use Prim.Native.Nat.{◌≤◌, ◌<◌}
use native.Mathlib.Decide.{dec_le}
use native.Mathlib.Nat.{lt_of_not-le}
use native.Mathlib.Omega.{arith}
use lib.ListN.{length-drop, drop_of_length-le}
use lib.Seq.{drop-drop, get_or-drop, take_all}
use borrow.Author.Tests.{ne_eqb, eq-eqb}
use borrow.Author.Rules.{sfits_of}
use mir.Facts.{to_z-of_z}
use mir.Syntax.{w64}
use mir.Val.{to_z, of_z}
use Rattle.sessiontext.specs.Reading.Forms.{is-number, is-integer}
use Rattle.sessiontext.proofs.Words.{held_fits}
use Rattle.theory.specs.Basics.{Bool, true, false, List, [], ℕ, ℤ, pos, length, get_or, take, drop}
use Rattle.theory.specs.Basics.{◌=?◌, same}
use Rattle.theory.proofs.Basics.Laws.{same_lists}
use Rattle.theory.specs.Partition.{degree}
use Rattle.theory.specs.Limits.{degree_limit}
use Rattle.theory.specs.Refusals.{first_of}
use Rattle.theory.specs.ShapeWord.{shape_word}
use Rattle.theory.specs.ClassWord.{class_word}
use Rattle.text.specs.Text.{Text, ascii, decimal, field}
use Rattle.textreading.specs.Reading.{number_in, integer_in, list_in, lines_of, first_line}
use Rattle.textreading.proofs.Reading.Lines.{Next, next}
use Rattle.pages.specs.Page.{slip_of}
use Rattle.sessiontext.specs.Reading.{is_number, is_integer, is_list, at, following, head_faults, slip_by}
use Rattle.sessiontext.specs.Private.Read.{HeadOf}

-- ---- places
module _ (text : Text) where
  -- line k starts at a place where the lines from k on are left
  record Starts (k place : ℕ) : Type 0 where
    fits : place ≤ length text
    left : lines_of (drop place text) ≡ drop k (lines_of text)

  its-line : {k place : ℕ} → Starts k place → first_line (drop place text) ≡ at text k
  its-line {k} s =
      ap (λ (ls : List Text). get_or ls 0 []) s.left ∙ get_or-drop k (lines_of text) 0 [] ∙ ap (at text) (omega arith)

  then : {k place end : ℕ} → Starts k place → Next text place end → Starts (k + 1) end
  then {k} s n = record {
    fits = n.fits s.fits;
    left = n.others ∙ ap (drop 1) s.left ∙ drop-drop 1 k (lines_of text);
  }

  none : Starts 0 0
  none = record { fits = omega arith; left = refl }

  pub record Six (a b c d e f : ℕ) : Type 0 where
    pub one : Next text 0 a
    pub two : Next text a b
    pub three : Next text b c
    pub four : Next text c d
    pub five : Next text d e
    pub six : Next text e f

  module _ {a b c d e f : ℕ} (s : Six a b c d e f) where
    second : Starts 1 a
    second = then none s.one

    third : Starts 2 b
    third = then second s.two

    fourth : Starts 3 c
    fourth = then third s.three

    fifth : Starts 4 d
    fifth = then fourth s.four

    sixth : Starts 5 e
    sixth = then fifth s.five

    behind : Starts 6 f
    behind = then sixth s.six

    pub ends : (a ≤ length text) × (b ≤ length text) × (c ≤ length text) × (d ≤ length text) × (e ≤ length text)
        × (f ≤ length text)
    ends = (second.fits, third.fits, fourth.fits, fifth.fits, sixth.fits, behind.fits)

    pub line-1 : take a text ≡ at text 0
    line-1 =
        let whole : a - 0 ≡ a = omega arith in
        rw whole at s.one.line

    pub line-2 : take (b - a) (drop a text) ≡ at text 1
    line-2 = s.two.line ∙ its-line second

    pub line-3 : take (c - b) (drop b text) ≡ at text 2
    line-3 = s.three.line ∙ its-line third

    pub line-4 : take (d - c) (drop c text) ≡ at text 3
    line-4 = s.four.line ∙ its-line fourth

    pub line-5 : take (e - d) (drop d text) ≡ at text 4
    line-5 = s.five.line ∙ its-line fifth

    pub line-6 : take (f - e) (drop e text) ≡ at text 5
    line-6 = s.six.line ∙ its-line sixth

    pub rest : lines_of (drop f text) ≡ following text
    rest = behind.left

    pub rest-whole : take (length text - f) (drop f text) ≡ drop f text
    rest-whole = take_all (length text - f) (drop f text) (omega (arith, length-drop f text))

    -- where the sixth line is there, all are
    pub far : (at text 5 ≡ [] → ⊥) → 6 ≤ f
    far n =
        let h : e < length text = there in
        omega (
          arith,
          s.six.later h,
          s.five.later (omega (arith, s.five.from)),
          s.four.later (omega (arith, s.five.from, s.four.from)),
          s.three.later (omega (arith, s.five.from, s.four.from, s.three.from)),
          s.two.later (omega (arith, s.five.from, s.four.from, s.three.from, s.two.from)),
          s.one.later (omega (arith, s.five.from, s.four.from, s.three.from, s.two.from)),
        )
      where
        there : e < length text
        there = elim (dec_le (length text) e) [
          | yes l ↦ absurd (n (sym (its-line sixth) ∙ rw (drop_of_length-le text l) (unfold lines_of in refl)))
          | no g ↦ lt_of_not-le g
        ]

-- ---- what the readers tell: the first of the checks that applies, and where none does, the slip
module _ (text : Text) where
  abbrev pub fault : ℕ
  fault = first_of (head_faults degree_limit text)

  abbrev is_degree : Bool
  is_degree = is_number (ascii "degree=") (2 ^ 64) (at text 0)

  abbrev is_shape : Bool
  is_shape = is_list degree_limit (ascii "shape=") (at text 1)

  abbrev is_class : Bool
  is_class = is_list degree_limit (ascii "class=") (at text 2)

  abbrev is_steps : Bool
  is_steps = is_number (ascii "steps=") (2 ^ 63) (at text 3)

  abbrev is_settled : Bool
  is_settled = is_integer (ascii "settled=") (at text 4)

  pub no-degree : is_degree ≡ false → fault ≡ 1
  no-degree d = rw d refl

  module _ (d : is_degree ≡ true) where
    pub no-shape : is_shape ≡ false → fault ≡ 2
    no-shape s = rw (d, s) refl

    module _ (s : is_shape ≡ true) where
      pub other-degree : (number_in (at text 0) ≡ degree (list_in (at text 1)) → ⊥) → fault ≡ 1
      other-degree n = rw (d, s, ne_eqb (number_in (at text 0)) (degree (list_in (at text 1))) n) refl

      module _ (same_degree : number_in (at text 0) ≡ degree (list_in (at text 1))) where
        equal : number_in (at text 0) =? degree (list_in (at text 1)) ≡ true
        equal = eq-eqb (number_in (at text 0)) (degree (list_in (at text 1))) same_degree

        pub no-class : is_class ≡ false → fault ≡ 3
        no-class c = rw (d, s, equal, c) refl

        module _ (c : is_class ≡ true) where
          pub no-steps : is_steps ≡ false → fault ≡ 4
          no-steps n = rw (d, s, equal, c, n) refl

          module _ (n : is_steps ≡ true) where
            pub no-settled : is_settled ≡ false → fault ≡ 5
            no-settled z = rw (d, s, equal, c, n, z) refl

            module _ (z : is_settled ≡ true) {lines : ℕ} (count : lines ≡ length (following text)) where
              pub no-count : same (at text 5) (field "lines=" (decimal lines)) ≡ false → fault ≡ 6
              no-count l = rw (d, s, equal, c, n, z, ← count, l) refl

              module _ (l : same (at text 5) (field "lines=" (decimal lines)) ≡ true) where
                no-fault : fault ≡ 0
                no-fault = rw (d, s, equal, c, n, z, ← count, l) refl

                sixth-there : at text 5 ≡ [] → ⊥
                sixth-there none =
                    omega (arith, ap length (sym none ∙ same_lists (at text 5) (field "lines=" (decimal lines)) l))

                pub head_read : {e1 e2 e3 e4 e5 end : ℕ} → Six text e1 e2 e3 e4 e5 end
                    → {shape class : ℕ} {settled steps : ℤ} → shape ≡ shape_word (list_in (at text 1))
                    → class ≡ class_word (list_in (at text 2)) → settled ≡ integer_in (at text 4)
                    → steps ≡ pos (number_in (at text 3))
                    → HeadOf text (record { slip = slip_of shape class settled lines steps 0; end = end })
                unfolding slip_by
                head_read six es ec ez en = record {
                  passes = no-fault;
                  slip = rw (es, ec, ez, en, count) refl;
                  far = far text six sixth-there;
                  fits = (ends text six).5;
                  rest = rest text six;
                }

-- ---- as the calls hand it on
module _ (text : Text) where
  pub six : {e1 e2 e3 e4 e5 end : ℕ} → e1 ≡ 0 + length (first_line (drop 0 text))
      → e2 ≡ e1 + length (first_line (drop e1 text)) → e3 ≡ e2 + length (first_line (drop e2 text))
      → e4 ≡ e3 + length (first_line (drop e3 text)) → e5 ≡ e4 + length (first_line (drop e4 text))
      → end ≡ e5 + length (first_line (drop e5 text)) → Six text e1 e2 e3 e4 e5 end
  six p q r s t u = record {
    one = next text 0 _ p;
    two = next text _ _ q;
    three = next text _ _ r;
    four = next text _ _ s;
    five = next text _ _ t;
    six = next text _ _ u;
  }

  pub at-fault : {k : ℕ} → 0 < k → fault text ≡ k → (k ≡ fault text) × (k ≢ 0)
  at-fault h e = (sym e, λ z. omega arith)

  pub steps-kept : {z : ℤ} → is_steps text ≡ true → z ≡ pos (number_in (at text 3)) → to_z w64 (of_z w64 z) ≡ z
  steps-kept f e =
      let line = is-number (ascii "steps=") (2 ^ 63) (at text 3) f in
      to_z-of_z {w = w64} (rw e (sfits_of line.small))

  pub settled-kept : {z : ℤ} → is_settled text ≡ true → z ≡ integer_in (at text 4) → to_z w64 (of_z w64 z) ≡ z
  settled-kept {z} f e =
      to_z-of_z {w = w64} (held_fits z (rw e (is-integer (ascii "settled=") (at text 4) f).fits))

-- Each line of a session's text is of its form, and is read as what it was written for.
--   Read ..   what is read off the text of a waiting line of this shape, class and weight
use Rattle.std.specs.Prelude.{◌≡◌, ◌≤◌, ◌<◌, ◌∷◌, ◌++◌, ◌^◌}
use Rattle.std.proofs.Math.Path.{refl}
use Rattle.std.proofs.Common.{sym, ◌∙◌, ap, arith}
use mathlib.Core.List.{append_assoc, append-nil}
use Rattle.theory.specs.Basics.{true, not, [], ℕ, ℤ, ◌=?◌, every, Each}
use Rattle.theory.proofs.Basics.Laws.{each_append}
use Rattle.theory.specs.Partition.{Parts, is_partition, degree}
use Rattle.theory.proofs.Partition.Laws.{front}
use Rattle.theory.specs.Digits.{digits, width}
use Rattle.theory.specs.ShapeWord.{shape_word, shape_of}
use Rattle.theory.proofs.ShapeWord.Good.{shape-good}
use Rattle.theory.proofs.ShapeWord.Words.{shape-back}
use Rattle.theory.proofs.ShapeWord.Laws.{rows-partition}
use Rattle.theory.specs.ClassWord.{class_word, class_of}
use Rattle.theory.proofs.ClassWord.Laws.{word-of-class}
use Rattle.theory.specs.Refusals.Laws.{Within, WithinClass}
use Rattle.text.specs.Text.{Text, ascii, decimal, integer, list_text, text_line, field}
use Rattle.textreading.specs.Reading.{is_digit, number_in, integer_in, before, behind, list_in}
use Rattle.textreading.specs.Reading.Bytes.{Without, without, each-not, list-within}
use Rattle.textreading.specs.Reading.Bytes.{before-first, behind-first}
use Rattle.textreading.specs.Reading.Numbers.{number-back, integer-back}
use Rattle.textreading.specs.Reading.Lists.{Mute, Listed as Number>0, list_back}
use Rattle.pages.specs.Line.{Line}
use Rattle.sessiontext.specs.SessionText.{held, Form, weighted_text, line_text_by}
use Rattle.sessiontext.specs.SessionText.Faithful.{Faithful}
use Rattle.sessiontext.specs.SessionText.Faithful.Gathered.{held_below}
use Rattle.sessiontext.specs.SessionText.Storable.{StorableLineBy}
use Rattle.sessiontext.specs.Reading.{shape_in, class_in, weight_by, line_by}
use Rattle.sessiontext.specs.Reading.Forms.{Number, Integer, InLimit, Listed, WaitingBy}

-- ---- names and newlines are silent
newline : Mute (ascii "\n")
newline = record { silent = (refl, tt); plain = (refl, tt) }

mute : (t : Text) → every (λ b. not (is_digit b)) t ≡ true → every (λ b. not (b =? 44)) t ≡ true → Mute t
mute t s p = record { silent = each-not is_digit t s; plain = each-not (◌=? 44) t p }

-- ---- numbers
module _ (name : Text) (s : every (λ b. not (is_digit b)) name ≡ true) where
  pub number-line : (n : ℕ) → n < 10 ^ 20 → number_in (text_line name (decimal n)) ≡ n
  number-line n h = number-back name (ascii "\n") (each-not is_digit name s) (refl, tt) n h

  pub number-formed : (n bound : ℕ) → n < bound → bound ≤ 2 ^ 64 → Number name bound (text_line name (decimal n))
  number-formed n bound h l =
      let e = number-line n (omega arith) in
      record { small = rw e h; whole = ap (λ m. text_line name (decimal m)) (sym e) }

module _ (z : ℤ) (h : held z ≡ true) where
  pub settled-line : integer_in (field "settled=" (integer z)) ≡ z
  settled-line =
      integer-back (ascii "settled=") (ascii "\n") (each-not is_digit (ascii "settled=") refl) (refl, tt)
      (each-not (◌=? 45) (ascii "settled=") refl) (refl, tt) z (held_below z h)

  pub settled-formed : Integer (ascii "settled=") (field "settled=" (integer z))
  settled-formed = record {
    fits = ap held settled-line ∙ h;
    whole = ap (λ z. field "settled=" (integer z)) (sym settled-line);
  }

-- ---- lists
module _ (limit : ℕ) (room : limit < width) where
  each_part : (ps : Parts) → is_partition ps ≡ true → degree ps < 10 ^ 20 → Each Number>0 ps
  each_part [] e h = tt
  each_part (p ∷ ps) e h =
      let f = front p ps e in
      ((f.positive, omega arith), each_part ps f.rest (omega arith))

  parts : {ps : Parts} → InLimit limit ps → Each Number>0 ps
  parts {ps} i = each_part ps i.partition (omega (arith, i.small))

  module _ (name : Text) (s : every (λ b. not (is_digit b)) name ≡ true) (p : every (λ b. not (b =? 44)) name ≡ true)
    where
      pub list-line : {ps : Parts} → InLimit limit ps → list_in (text_line name (list_text ps)) ≡ ps
      list-line {ps} i = list_back name (ascii "\n") (mute name s p) newline ps (parts i)

      pub list-formed : {ps : Parts} → InLimit limit ps → Listed limit name (text_line name (list_text ps))
      list-formed i =
          let e = list-line i in
          record { within = rw e i; whole = ap (λ ps. text_line name (list_text ps)) (sym e) }

  pub shape-in : {w : ℕ} → Within limit w → InLimit limit (shape_of w)
  shape-in {w} s = record { partition = rows-partition (digits width w); small = s.small }

  pub class-in : {w : ℕ} → WithinClass limit w → InLimit limit (class_of w)
  class-in c = record { partition = c.good.partition; small = c.small }

  pub class_same : {w : ℕ} → WithinClass limit w → class_word (class_of w) ≡ w
  class_same c = word-of-class c.good.below

  -- ---- a waiting line
  module _ (shape class : Parts) (i : InLimit limit shape) (j : InLimit limit class) where
    abbrev tail : Text
    tail = list_text shape ++ ascii ";" ++ list_text class ++ ascii "\n"

    apart : tail ≡ list_text shape ++ 59 ∷ (list_text class ++ ascii "\n")
    apart = simp append_assoc

    no-semicolon : Without 59 (list_text shape)
    no-semicolon = without 44 57 59 (list_text shape) (λ x l h e. omega arith) (list-within shape)

    shape-read : list_in (before 59 tail) ≡ shape
    shape-read =
        ap list_in (ap (before 59) apart ∙ before-first 59 (list_text shape) _ no-semicolon ∙ sym (append-nil (list_text
        shape)))
        ∙ list_back [] [] (mute [] refl refl) (mute [] refl refl) shape (parts i)

    class-read : list_in (behind 59 tail) ≡ class
    class-read =
        ap list_in (ap (behind 59) apart ∙ behind-first 59 (list_text shape) _ no-semicolon)
        ∙ list_back [] (ascii "\n") (mute [] refl refl) newline class (parts j)

    module _ {f : Form} (fa : Faithful f) (z : ℤ) (kept : fa.Kept z) where
      abbrev text : Text
      text = weighted_text (f.weight_text z) shape class

      abbrev ahead : Text
      ahead = ascii "line=" ++ f.weight_text z

      split : text ≡ ahead ++ 59 ∷ tail
      unfolding weighted_text
      split = simp append_assoc

      front-plain : Without 59 ahead
      front-plain =
          each_append _ (ascii "line=") (f.weight_text z) (each-not (◌=? 59) (ascii "line=") refl)
          (without 43 57 59 (f.weight_text z) (λ x l h e. omega arith) (fa.weight-within z))

      pub record Read : Type 0 where
        pub its-weight : weight_by f text ≡ z
        pub its_shape : shape_in text ≡ shape
        pub its-class : class_in text ≡ class

      waiting-read : Read
      waiting-read =
          let behind-it : behind 59 text ≡ tail = ap (behind 59) split ∙ behind-first 59 ahead tail front-plain in
          record {
            its-weight =
                ap f.weight_in (ap (before 59) split ∙ before-first 59 ahead tail front-plain)
                ∙ fa.weight-back z kept;
            its_shape = ap (λ (u : Text). list_in (before 59 u)) behind-it ∙ shape-read;
            its-class = ap (λ (u : Text). list_in (behind 59 u)) behind-it ∙ class-read;
          }

      pub waiting-formed : WaitingBy f limit text
      waiting-formed =
          let read = waiting-read in
          record {
            fits = rw read.its-weight (fa.kept-fits z kept);
            shape = rw read.its_shape i;
            class = rw read.its-class j;
            whole = rw (read.its-weight, read.its_shape, read.its-class) refl;
          }

      pub waiting-same : line_by f text ≡ record { weight = z; shape = shape_word shape; class = class_word class }
      unfolding line_by
      waiting-same =
          let read = waiting-read in
          rw (read.its-weight, read.its_shape, read.its-class) refl

  -- a line of a session
  module _ {f : Form} (fa : Faithful f) {l : Line} (s : StorableLineBy fa limit l) where
    pub line-formed : WaitingBy f limit (line_text_by f l)
    line-formed =
        waiting-formed (shape_of l.shape) (class_of l.class) (shape-in s.shape) (class-in s.class) fa
        l.weight
        s.kept

    pub line_same : line_by f (line_text_by f l) ≡ l
    line_same =
        waiting-same (shape_of l.shape) (class_of l.class) (shape-in s.shape) (class-in s.class) fa
        l.weight
        s.kept
        ∙ rw (shape-back l.shape (shape-good s.shape.good), class_same s.class) refl

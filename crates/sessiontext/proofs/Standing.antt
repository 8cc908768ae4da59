-- Texts that stand in a text, one after the other, as they are read straight on.
use Rattle.std.specs.Prelude.{◌∷◌, ◌++◌, ◌+◌, ◌-◌, ◌/◌, ◌%◌, ◌^◌}
use mathlib.Core.Path.{◌≡◌, refl, sym, ◌∙◌, ap}
use mathlib.Core.List.{append_assoc, append-nil}
use Prim.Native.Nat.{◌≤◌, ◌<◌}
use native.Mathlib.Numerals.{add-one}
use native.Mathlib.Omega.{arith}
use lib.ListN.{set}
use lib.Seq.{drop_at, take_all, take-suc-set}
use Rattle.theory.specs.Basics.{Bool, List, [], map, length, get_or, take, drop, joined}
use Rattle.theory.specs.Basics.{ℕ, suc, ℤ, pos, signed}
use Rattle.theory.proofs.Bounds.Laws.{abs-signed}
use Rattle.theory.specs.Digits.{width}
use Rattle.theory.specs.ShapeWord.{shape_word}
use Rattle.theory.specs.ClassWord.{class_word}
use Rattle.theory.specs.Limits.{degree_limit}
use Rattle.text.specs.Text.{Text, ascii, decimal, commas, list_text}
use Rattle.text.specs.Text.Decimals.{one-digit, two_digits}
use Rattle.textreading.specs.Reading.{first_line}
use Rattle.textreading.proofs.Reading.Lines.{Line, line_first}
use Rattle.pages.specs.Page.{word_of, plain}
use Rattle.sessiontext.specs.SessionText.{sign_text, waiting_text, weighted_text}
use Rattle.sessiontext.specs.Reading.Fields.{waiting-formed, waiting-same}
use Rattle.sessiontext.specs.Reading.Back.{waiting-line}
use Rattle.sessiontext.specs.Reading.{line_in}
use Rattle.sessiontext.specs.Reading.Forms.{InLimit, Waiting}
use Rattle.sessiontext.specs.SessionText.Faithful.Plain.{plain-faithful, sign_read}
use Rattle.sessiontext.specs.Private.Stands.{WordRead, LineRead}
use Rattle.sessiontext.proofs.WaitingLines.{shape-kept}

-- ---- parts
pub one-part : (t : Text) → 49 ≤ get_or t 0 0 → get_or t 0 0 ≤ 57
    → t ≡ decimal (get_or t 0 0 - 48) ++ take (length t - 1) (drop 1 t)
one-part [] l h = absurd (omega arith)
one-part (x ∷ t) l h =
    let same : 48 + (x - 48) ≡ x = omega arith in
    let rest : suc (length t) - 1 ≡ length t = omega arith in
    rw (one-digit (x - 48) (omega arith), same, rest, take_all (length t) t (omega arith))

pub two-part : (t : Text) → 2 ≤ length t → get_or t 0 0 ≡ 49 → 48 ≤ get_or t 1 0 → get_or t 1 0 ≤ 57
    → t ≡ decimal (get_or t 1 0 - 38) ++ take (length t - 2) (drop 2 t)
two-part [] n e l h = absurd (omega arith)
two-part (x ∷ []) n e l h = absurd (omega arith)
two-part (x ∷ y ∷ t) n e l h =
    let tens : 48 + (y - 38) / 10 ≡ x = omega arith in
    let ones : 48 + (y - 38) % 10 ≡ y = omega arith in
    let rest : suc (suc (length t)) - 2 ≡ length t = omega arith in
    rw (two_digits (y - 38) (omega arith) (omega arith), tens, ones, rest, take_all (length t) t (omega arith))

-- ---- lists
abbrev pub ended : List ℕ → Text
ended ps = joined (λ p. decimal p ++ ascii ",") ps

ended-next : (ps : List ℕ) (p : ℕ) → ended (ps ++ p ∷ []) ≡ ended ps ++ (decimal p ++ ascii ",")
ended-next [] p = append-nil _
ended-next (q ∷ ps) p =
    ap (λ (t : Text). decimal q ++ ascii "," ++ t) (ended-next ps p) ∙ sym (append_assoc (decimal q ++ ascii ",") _ _)

after-comma : (ps : List ℕ) (p : ℕ)
    → joined (λ u. ascii "," ++ u) (map decimal (ps ++ p ∷ [])) ≡ ascii "," ++ list_text (ps ++ p ∷ [])
unfolding commas
after-comma [] p = refl
after-comma (q ∷ ps) p = refl

-- the last part has no comma behind it
list-ended : (ps : List ℕ) (p : ℕ) → list_text (ps ++ p ∷ []) ≡ ended ps ++ decimal p
unfolding commas
list-ended [] p = append-nil (decimal p)
list-ended (q ∷ ps) p =
    ap (λ (t : Text). decimal q ++ t) (after-comma ps p ∙ ap (λ (t : Text). ascii "," ++ t) (list-ended ps p))
    ∙ sym (simp append_assoc)

-- what is behind a byte at the front
pub byte-front : (t : Text) → 1 ≤ length t → t ≡ get_or t 0 0 ∷ take (length t - 1) (drop 1 t)
byte-front [] h = absurd (omega arith)
byte-front (x ∷ t) h =
    let rest : suc (length t) - 1 ≡ length t = omega arith in
    rw (rest, take_all (length t) t (omega arith))

module _ (text : Text) {count : ℕ} (column : List ℕ) (more : count < length column) (part : ℕ) {left : Text}
    (behind : Text)
    (e : text ≡ ended (take count column) ++ left) (p : left ≡ decimal part ++ behind) (h : 1 ≤ length behind) where
  abbrev rest : Text
  rest = take (length behind - 1) (drop 1 behind)

  cut : text ≡ ended (take count column) ++ (decimal part ++ get_or behind 0 0 ∷ rest)
  cut =
      e
      ∙ ap (λ (t : Text). ended (take count column) ++ t) (p ∙ ap (λ (t : Text). decimal part ++ t) (byte-front behind h))

  listed : take (count + 1) (set column count part) ≡ take count column ++ part ∷ []
  listed = rw add-one (take-suc-set column count part more)

  -- the last part and the byte that stops
  pub list-stops : {stop : ℕ} → get_or behind 0 0 ≡ stop
      → text ≡ (list_text (take (count + 1) (set column count part)) ++ stop ∷ []) ++ rest
  list-stops b =
      let whole = rw b at cut in
      rw (listed, list-ended (take count column) part) (whole ∙ simp append_assoc)

-- ---- a line
first-line-is : {t text : Text} (rest : Text) → text ≡ t ++ rest → Line t → first_line text ≡ t
first-line-is {t} {text} rest e l =
    let whole = e ∙ ap (λ (u : Text). u ++ rest) l.whole ∙ append_assoc l.body (ascii "\n") rest in
    rw (whole, line_first l.body rest l.plain) (sym l.whole)

regrouped : (name sign between shape class end rest : Text)
    → (name ++ sign ++ between) ++ ((shape ++ between) ++ ((class ++ end) ++ rest))
    ≡ (name ++ (sign ++ between ++ shape ++ between ++ class) ++ end) ++ rest
regrouped name sign between shape class end rest = simp append_assoc

small : degree_limit < width
small = omega arith

module _ {text first second rest : Text} {s c : ℕ} (minus : Bool)
    (front : text ≡ (ascii "line=" ++ sign_text minus ++ ascii ";") ++ first)
    (shape : WordRead shape_word 59 first s second) (class : WordRead class_word 10 second c rest) where
  abbrev line : Text
  line = waiting_text minus shape.parts class.parts

  whole : text ≡ line ++ rest
  unfolding weighted_text
  whole =
      front
      ∙ ap (λ (t : Text). (ascii "line=" ++ sign_text minus ++ ascii ";") ++ t)
      (shape.stands ∙ ap (λ (t : Text). (list_text shape.parts ++ 59 ∷ []) ++ t) class.stands)
      ∙ regrouped (ascii "line=") (sign_text minus) (ascii ";") (list_text shape.parts) (list_text class.parts)
      (ascii "\n") rest

  abbrev weight : ℤ
  weight = signed minus (pos 1)

  its-line : Line line
  its-line =
      rw (sign_read minus) at (waiting-line plain-faithful weight shape.parts class.parts)

  module _ (i : InLimit degree_limit shape.parts) (j : InLimit degree_limit class.parts) where
    signed-formed : Waiting degree_limit line
    unfolding plain-faithful
    signed-formed =
        rw (sign_read minus) at
        (waiting-formed degree_limit small shape.parts class.parts i j plain-faithful weight
        (abs-signed minus (pos 1)))

    signed_same : line_in line ≡ plain minus (shape_word shape.parts) (class_word class.parts)
    unfolding plain-faithful
    signed_same =
        rw (sign_read minus) at
        (waiting-same degree_limit small shape.parts class.parts i j plain-faithful weight
        (abs-signed minus (pos 1)))

  pub line-stands : {word : ℕ} → word ≡ word_of (plain minus (s % 2 ^ 31) c) → LineRead text word rest
  line-stands w =
      let first = first-line-is rest whole its-line in
      let i = shape.within in
      let j = class.within in
      record {
        formed = rw first (signed-formed i j);
        word_is = w ∙ rw (first, signed_same i j, shape.word_is, class.word_is, shape-kept shape.parts) refl;
        behind = rw (first, whole) (sym (drop_at line rest (length line) refl));
      }

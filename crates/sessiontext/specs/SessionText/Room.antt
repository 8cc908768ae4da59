-- How long the text of a session can be: a list of parts takes at most two bytes for each cell, the last comma less, so
-- 31.
--   line_room         how many bytes are enough for the line of text for a waiting line; head_room, for the six lines
--                    before them
--   line_room_by fa    the same by any form
--   weighted_room     the same by the gathered form; fronted_room, for its seven lines before them
use Rattle.std.specs.Prelude.{◌≡◌, ◌≤◌, ◌<◌, ◌∷◌, ◌++◌, ◌+◌, ◌-◌, ◌*◌, ◌^◌}
use native.Mathlib.Omega.{arith}
use Rattle.std.proofs.Math.Decide.{dec_le}
use Rattle.std.proofs.Common.{lt_of_not-le}
use Rattle.std.proofs.Math.ListN.{length-append}
use Rattle.theory.specs.Basics.{Bool, true, List, [], map, length, ℕ}
use Rattle.theory.specs.Basics.{nat_abs, joined}
use Rattle.theory.proofs.Basics.Laws.{each_same, joined_length}
use Rattle.theory.specs.Partition.{Parts, is_partition, degree}
use Rattle.theory.proofs.Partition.Laws.{front}
use Rattle.theory.specs.Digits.{width}
use Rattle.theory.specs.ShapeWord.{shape_of}
use Rattle.theory.specs.ClassWord.{class_of}
use Rattle.theory.specs.Limits.{degree_limit}
use Rattle.text.specs.Text.{Text, ascii, decimal, integer, commas, list_text, text_line, field}
use Rattle.text.specs.Text.Decimals.{decimal-most, decimal-length, integer-length}
use Rattle.pages.specs.declared.Slip.{Slip}
use Rattle.pages.specs.Line.{Line}
use Rattle.sessiontext.specs.SessionText.{Form, gathered_form, sign_text, value_text, weighted_text, waiting_text}
use Rattle.sessiontext.specs.SessionText.{line_text_by, session_text_by, line_text, session_text}
use Rattle.sessiontext.specs.SessionText.Laws.{front_text, asked_text, reached_text, session-parts}
use Rattle.sessiontext.specs.SessionText.Faithful.{Faithful}
use Rattle.sessiontext.specs.SessionText.Faithful.Plain.{sign-length, plain-faithful}
use Rattle.sessiontext.specs.SessionText.Faithful.Gathered.{held_below, gathered-faithful}
use Rattle.sessiontext.specs.SessionText.Storable.{StorableLineBy, StorableBy, StorableLine, Storable}
use Rattle.sessiontext.specs.Reading.Forms.{InLimit}
use Rattle.sessiontext.specs.Reading.Fields.{shape-in, class-in}

abbrev pub line_room : ℕ
line_room = 72

abbrev pub head_room : ℕ
head_room = 256

abbrev pub weighted_room : ℕ
weighted_room = 91

abbrev pub fronted_room : ℕ
fronted_room = 270

-- ---- lines of text
pub line-length : (name t : Text) → length (text_line name t) ≡ length name + length t + 1
line-length name t = omega (arith, length-append (name ++ t) (ascii "\n"), length-append name t)

pub number-length : (name : Text) (n : ℕ) → length (text_line name (decimal n)) ≤ length name + 21
number-length name n = omega (arith, line-length name (decimal n), decimal-most n)

-- a part takes at most two bytes for each cell, its comma included
part_length : (p : ℕ) → 0 < p → p < 10 ^ 2 → length (decimal p) + 1 ≤ 2 * p
part_length p some h = elim (dec_le 10 p) [
  | yes l ↦ omega (arith, decimal-length p 1 h)
  | no g ↦ omega (arith, decimal-length p 0 (lt_of_not-le g))
]

behind-length : (ps : Parts) → is_partition ps ≡ true → degree ps < 10 ^ 2
    → length (joined (λ u. ascii "," ++ u) (map decimal ps)) ≤ 2 * degree ps
behind-length [] e h = omega arith
behind-length (p ∷ ps) e h =
    let f = front p ps e in
    let rest = behind-length ps f.rest (omega arith) in
    simp length-append (omega (arith, part_length p f.positive (omega arith), rest))

list_length : (ps : Parts) → is_partition ps ≡ true → degree ps < 10 ^ 2 → length (list_text ps) ≤ 2 * degree ps - 1
unfolding commas
list_length [] e h = omega arith
list_length (p ∷ ps) e h =
    let f = front p ps e in
    let rest = behind-length ps f.rest (omega arith) in
    simp length-append (omega (arith, part_length p f.positive (omega arith), rest))

pub list-short : {ps : Parts} → InLimit degree_limit ps → length (list_text ps) ≤ 31
list-short {ps} i = omega (arith, list_length ps i.partition (omega (arith, i.small)), i.small)

module _ (weight : Text) (shape class : Parts) where
  pub weighted-length : length (weighted_text weight shape class)
      ≡ 8 + length weight + length (list_text shape) + length (list_text class)
  unfolding weighted_text
  weighted-length =
      let first : Text = weight ++ ascii ";" in
      let second : Text = first ++ list_text shape ++ ascii ";" in
      omega (
        arith,
        line-length (ascii "line=") (value_text weight shape class),
        length-append second (list_text class),
        length-append (first ++ list_text shape) (ascii ";"),
        length-append first (list_text shape),
        length-append weight (ascii ";"),
      )

  weighted-short : (room : ℕ) → length weight ≤ room → InLimit degree_limit shape → InLimit degree_limit class
      → length (weighted_text weight shape class) ≤ room + 71
  weighted-short room h i j = omega (arith, weighted-length, list-short i, list-short j)

pub waiting-length : (minus : Bool) (shape class : Parts)
    → length (waiting_text minus shape class) ≡ 9 + length (list_text shape) + length (list_text class)
waiting-length minus shape class = omega (arith, weighted-length (sign_text minus) shape class, sign-length minus)

-- ---- a session
small : degree_limit < width
small = omega arith

module _ {f : Form} (fa : Faithful f) where
  abbrev pub line_room_by : ℕ
  line_room_by = fa.weight_room + 71

  pub line-short : (l : Line) → StorableLineBy fa degree_limit l → length (line_text_by f l) ≤ line_room_by
  line-short l x =
      weighted-short (f.weight_text l.weight) (shape_of l.shape) (class_of l.class) fa.weight_room
      (fa.weight-short l.weight x.kept) (shape-in degree_limit small x.shape)
      (class-in degree_limit small x.class)

  module _ {slip : Slip} {lines : List Line} (s : StorableBy fa degree_limit slip lines) where
    asked-short : length (asked_text slip) ≤ 160
    asked-short =
        let a : Text = field "degree=" (decimal (degree (shape_of slip.shape))) in
        let b : Text = field "shape=" (list_text (shape_of slip.shape)) in
        let c : Text = field "class=" (list_text (class_of slip.class)) in
        omega (
          arith,
          length-append (a ++ b) c,
          length-append a b,
          number-length (ascii "degree=") (degree (shape_of slip.shape)),
          line-length (ascii "shape=") (list_text (shape_of slip.shape)),
          list-short (shape-in degree_limit small s.shape),
          line-length (ascii "class=") (list_text (class_of slip.class)),
          list-short (class-in degree_limit small s.class),
        )

    reached-short : (count : ℕ) → length (reached_text slip count) ≤ 96
    reached-short count =
        let d : Text = field "steps=" (decimal (nat_abs slip.steps)) in
        let e : Text = field "settled=" (integer slip.settled) in
        let g : Text = field "lines=" (decimal count) in
        omega (
          arith,
          length-append (d ++ e) g,
          length-append d e,
          number-length (ascii "steps=") (nat_abs slip.steps),
          line-length (ascii "settled=") (integer slip.settled),
          integer-length slip.settled 19 (held_below slip.settled s.settled),
          number-length (ascii "lines=") count,
        )

    pub session-short : length (session_text_by f slip lines)
        ≤ length (front_text f) + (head_room + length lines * line_room_by)
    session-short =
        let rest : Text = joined (line_text_by f) lines in
        let front : Text = front_text f in
        let head : Text = asked_text slip ++ reached_text slip (length lines) in
        let each =
        each_same (StorableLineBy fa degree_limit) (λ l. length (line_text_by f l) ≤ line_room_by) lines line-short
        s.each in
        rw (session-parts f slip lines)
        (omega (
          arith,
          length-append front (head ++ rest),
          length-append head rest,
          length-append (asked_text slip) (reached_text slip (length lines)),
          asked-short,
          reached-short (length lines),
          joined_length (line_text_by f) line_room_by lines each,
        ))

-- ---- by the plain form
pub plain-line-short : (l : Line) → StorableLine degree_limit l → length (line_text l) ≤ line_room
unfolding plain-faithful
plain-line-short l x = line-short plain-faithful l x

pub plain-session-short : {slip : Slip} {lines : List Line} → Storable degree_limit slip lines
    → length (session_text slip lines) ≤ head_room + length lines * line_room
unfolding plain-faithful
plain-session-short s = omega (arith, session-short plain-faithful s)

-- ---- by the gathered form
pub gathered-session-short : {slip : Slip} {lines : List Line} → StorableBy gathered-faithful degree_limit slip lines
    → length (session_text_by gathered_form slip lines) ≤ fronted_room + length lines * weighted_room
unfolding gathered-faithful
gathered-session-short s = omega (arith, session-short gathered-faithful s)

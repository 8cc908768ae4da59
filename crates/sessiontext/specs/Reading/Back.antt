-- The text of a session is read as that session, and none of its lines is at fault.
use Rattle.std.specs.Prelude.{◌≡◌, ◌<◌, ◌∷◌, ◌++◌, ◌^◌}
use Rattle.std.proofs.Math.Path.{refl, ap}
use Rattle.std.proofs.Common.{sym, ◌∙◌, arith}
use Rattle.std.proofs.lemmas.Bool.{false≢true}
use Rattle.std.proofs.Math.ListN.{length-map}
use Rattle.std.proofs.Math.Seq.{drop_at}
use Rattle.std.specs.Int.Signed.{non_neg}
use Rattle.theory.specs.Basics.{true, not, List, [], map, length, drop, ℕ, ℤ, pos, negsuc}
use Rattle.theory.specs.Basics.{nat_abs, ◌=?◌, every, Each}
use Rattle.theory.proofs.Basics.Laws.{each_append, each_map}
use Rattle.theory.specs.Partition.{Parts, degree}
use Rattle.theory.specs.Digits.{width}
use Rattle.theory.specs.ShapeWord.{shape_of}
use Rattle.theory.proofs.ShapeWord.Good.{shape-good}
use Rattle.theory.proofs.ShapeWord.Words.{shape-back}
use Rattle.theory.specs.ClassWord.{class_of}
use Rattle.text.specs.Text.{Text, ascii, decimal, integer, list_text, text_line, field}
use Rattle.textreading.specs.Reading.{lines_of}
use Rattle.textreading.specs.Reading.Bytes.{Without, without, each-not, decimal-within, integer-within, list-within}
use Rattle.textreading.proofs.Reading.Lines.{Line, text-line, lines-joined}
use Rattle.pages.specs.Line.{Line as Waits}
use Rattle.pages.specs.declared.Slip.{Slip}
use Rattle.sessiontext.specs.SessionText.{Form, weighted_text, line_text_by, session_lines_by, session_text_by}
use Rattle.sessiontext.specs.SessionText.Faithful.{Faithful}
use Rattle.sessiontext.specs.SessionText.Storable.{StorableLineBy, StorableBy}
use Rattle.sessiontext.specs.Reading.{line_by, body_by, fault_by, slip_by, lines_by}
use Rattle.sessiontext.specs.Reading.Forms.{Fronted, InLimit, WaitingBy, FormedBy, no-fault}
use Rattle.sessiontext.specs.Reading.Fields.{number-line, number-formed, settled-line, settled-formed}
use Rattle.sessiontext.specs.Reading.Fields.{list-line, list-formed, shape-in, class-in, class_same}
use Rattle.sessiontext.specs.Reading.Fields.{line-formed, line_same}

-- ---- the lines of the text
is_front : (front ts : List Text) → Fronted front (front ++ ts)
is_front [] ts = tt
is_front (line ∷ front) ts = (refl, is_front front ts)

plain-list : (ps : Parts) → Without 10 (list_text ps)
plain-list ps = without 44 57 10 (list_text ps) (λ x l h e. omega arith) (list-within ps)

plain-number : (n : ℕ) → Without 10 (decimal n)
plain-number n = without 48 57 10 (decimal n) (λ x l h e. omega arith) (decimal-within n)

-- a name that is written out, and a text without newlines
named : (name t : Text) → every (λ b. not (b =? 10)) name ≡ true → Without 10 t → Line (text_line name t)
named name t e w = text-line name t (each-not (◌=? 10) name e) w

module _ {f : Form} (fa : Faithful f) where
  pub waiting-line : (z : ℤ) (shape class : Parts) → Line (weighted_text (f.weight_text z) shape class)
  unfolding weighted_text
  waiting-line z shape class =
      let first : Text = f.weight_text z ++ ascii ";" in
      let second : Text = first ++ list_text shape ++ ascii ";" in
      let plain = without 43 57 10 (f.weight_text z) (λ x l h e. omega arith) (fa.weight-within z) in
      let a = each_append _ (f.weight_text z) (ascii ";") plain (refl, tt) in
      let b = each_append _ first (list_text shape) a (plain-list shape) in
      let c = each_append _ (first ++ list_text shape) (ascii ";") b (refl, tt) in
      named (ascii "line=") (second ++ list_text class) refl (each_append _ second (list_text class) c (plain-list class))

  waiting-lines : (lines : List Waits) → Each Line (map (line_text_by f) lines)
  waiting-lines [] = tt
  waiting-lines (l ∷ lines) =
      (waiting-line l.weight (shape_of l.shape) (class_of l.class), waiting-lines lines)

module _ (slip : Slip) (lines : List Waits) where
  abbrev shape : Parts
  shape = shape_of slip.shape

  abbrev class : Parts
  class = class_of slip.class

  line-1 : Line (field "degree=" (decimal (degree shape)))
  line-1 = named (ascii "degree=") (decimal (degree shape)) refl (plain-number _)

  line-2 : Line (field "shape=" (list_text shape))
  line-2 = named (ascii "shape=") (list_text shape) refl (plain-list shape)

  line-3 : Line (field "class=" (list_text class))
  line-3 = named (ascii "class=") (list_text class) refl (plain-list class)

  line-4 : Line (field "steps=" (decimal (nat_abs slip.steps)))
  line-4 = named (ascii "steps=") (decimal (nat_abs slip.steps)) refl (plain-number _)

  line-5 : Line (field "settled=" (integer slip.settled))
  line-5 =
      let z = slip.settled in
      let plain = without 45 57 10 (integer z) (λ x l h e. omega arith) (integer-within z) in
      named (ascii "settled=") (integer z) refl plain

  line-6 : Line (field "lines=" (decimal (length lines)))
  line-6 = named (ascii "lines=") (decimal (length lines)) refl (plain-number _)

  module _ {f : Form} (fa : Faithful f) where
    session-line : Each Line (session_lines_by f slip lines)
    unfolding session_lines_by
    session-line =
        each_append Line f.front _ fa.front-lines
        (line-1, (line-2, (line-3, (line-4, (line-5, (line-6, waiting-lines fa lines))))))

    lines-read : lines_of (session_text_by f slip lines) ≡ session_lines_by f slip lines
    unfolding session_text_by
    lines-read = lines-joined (session_lines_by f slip lines) session-line

    -- the lines in front, and those behind them
    fronted : Fronted f.front (lines_of (session_text_by f slip lines))
    unfolding session_lines_by
    fronted = rw lines-read (is_front f.front _)

    abbrev body : List Text
    body =
        field "degree=" (decimal (degree shape)) ∷ field "shape=" (list_text shape) ∷ field "class=" (list_text class)
        ∷ field "steps=" (decimal (nat_abs slip.steps)) ∷ field "settled=" (integer slip.settled)
        ∷ field "lines=" (decimal (length lines)) ∷ map (line_text_by f) lines

    body-read : body_by f (session_text_by f slip lines) ≡ body
    unfolding session_lines_by
    body-read = ap (drop (length f.front)) lines-read ∙ drop_at f.front body (length f.front) refl

-- ---- what they are read as
pub forward-same : (z : ℤ) → non_neg z ≡ true → pos (nat_abs z) ≡ z
forward-same (pos n) e = refl
forward-same (negsuc n) e = absurd (false≢true e)

module _ {f : Form} (fa : Faithful f) (limit : ℕ) (room : limit < width) where
  all-formed : (lines : List Waits) → Each (StorableLineBy fa limit) lines
      → Each (WaitingBy f limit) (map (line_text_by f) lines)
  all-formed lines e =
      each_map (StorableLineBy fa limit) (WaitingBy f limit) (line_text_by f) lines (λ x. line-formed limit room fa) e

  all_same : (lines : List Waits) → Each (StorableLineBy fa limit) lines
      → map (line_by f) (map (line_text_by f) lines) ≡ lines
  all_same [] e = refl
  all_same (x ∷ lines) e = rw (line_same limit room fa e.0, all_same lines e.1)

  module _ {slip : Slip} {lines : List Waits} (s : StorableBy fa limit slip lines) where
    its_shape : InLimit limit (shape_of slip.shape)
    its_shape = shape-in limit room s.shape

    its-class : InLimit limit (class_of slip.class)
    its-class = class-in limit room s.class

    session-formed : FormedBy f limit (session_text_by f slip lines)
    session-formed =
        let e = body-read slip lines fa in
        record {
          front = fronted slip lines fa;
          degree-line =
              rw e (number-formed (ascii "degree=") refl _ (2 ^ 64) (omega (arith, its_shape.small)) (omega arith));
          degrees =
              rw e
              (number-line (ascii "degree=") refl _ (omega (arith, its_shape.small))
              ∙ ap degree (sym (list-line limit room (ascii "shape=") refl refl its_shape)));
          shape = rw e (list-formed limit room (ascii "shape=") refl refl its_shape);
          class = rw e (list-formed limit room (ascii "class=") refl refl its-class);
          steps = rw e (number-formed (ascii "steps=") refl _ (2 ^ 63) s.steps.small (omega arith));
          settled = rw e (settled-formed slip.settled s.settled);
          count = rw e (ap (λ n. field "lines=" (decimal n)) (sym (length-map lines (line_text_by f))));
          lines = rw e (all-formed lines s.each);
        }

    pub text-faultless : fault_by f limit (session_text_by f slip lines) ≡ 0
    text-faultless = no-fault f limit (session_text_by f slip lines) session-formed

    pub slip-back : slip_by f (session_text_by f slip lines) ≡ slip
    unfolding slip_by
    slip-back =
        rw (
          body-read slip lines fa,
          list-line limit room (ascii "shape=") refl refl its_shape,
          list-line limit room (ascii "class=") refl refl its-class,
          shape-back slip.shape (shape-good s.shape.good),
          class_same limit room s.class,
          settled-line slip.settled s.settled,
          number-line (ascii "steps=") refl (nat_abs slip.steps) (omega (arith, s.steps.small)),
          forward-same slip.steps s.steps.forward,
          length-map,
          ← s.count,
          ← s.mode,
        ) refl

    pub lines-back : lines_by f (session_text_by f slip lines) ≡ lines
    unfolding lines_by
    lines-back = rw (body-read slip lines fa) (all_same lines s.each)

-- A waiting line that is read off a line of text: where its semicolons cut it, and what is told by comparing.
--   Cuts t first start second last   the places at which the sign's, the shape's and the class's text start and end
use Rattle.std.specs.Prelude.{Some, ◌&&◌, ◌∷◌, ◌+◌, ◌-◌, ◌%◌, ◌^◌}
use mathlib.Core.Path.{◌≡◌, refl, sym, ◌∙◌, ap, subst}
use mathlib.Core.Bool.{false≢true}
use Prim.Native.Nat.{◌≤◌, ◌<◌, min}
use native.Mathlib.Decide.{dec_le}
use native.Mathlib.Nat.{lt_of_not-le}
use native.Mathlib.Omega.{arith}
use lib.ListN.{length-drop}
use lib.Seq.{drop-drop, drop-length, take_all, length-take-le}
use Rattle.theory.specs.Basics.{Bool, true, false, cond, [], ℕ, suc, length, take}
use Rattle.theory.specs.Basics.{drop, ◌=?◌}
use Rattle.theory.specs.Basics.{◌<?◌}
use Rattle.theory.proofs.Basics.Keep.{same_test}
use Rattle.theory.proofs.Basics.Laws.{both}
use Rattle.theory.specs.Partition.{Parts}
use Rattle.theory.specs.ShapeWord.{shape_word}
use Rattle.theory.proofs.ShapeWord.Good.{good-shape}
use Rattle.theory.proofs.ShapeWord.Words.{rows-good}
use Rattle.theory.specs.ClassWord.{class_word}
use Rattle.theory.specs.Digits.{width}
use Rattle.theory.specs.Limits.{degree_limit}
use Rattle.text.specs.Text.{Text}
use Rattle.textreading.specs.Reading.{holds, before, behind}
use Rattle.textreading.specs.Reading.Bytes.{before-take, before-fits, byte-found, byte-missing}
use Rattle.pages.specs.Line.{Line}
use Rattle.pages.specs.Page.{line_of, word_of, plain}
use Rattle.pages.specs.Page.Words.{line_read}
use Rattle.pages.specs.Lawful.Plain.{plain-lawful}
use Rattle.sessiontext.specs.SessionText.{Form, plain_form, line_text_by, line_text}
use Rattle.sessiontext.specs.SessionText.Faithful.{Faithful}
use Rattle.sessiontext.specs.SessionText.Faithful.Plain.{plain-faithful}
use Rattle.sessiontext.specs.SessionText.Storable.{StorableLine}
use Rattle.sessiontext.specs.SessionText.Room.{line_room, plain-line-short}
use Rattle.sessiontext.specs.Reading.{in_limit, minus_in, shape_in, class_in, weight_by, is_waiting_by, line_by}
use Rattle.sessiontext.specs.Reading.{is_waiting, line_in}
use Rattle.sessiontext.specs.Reading.Forms.{InLimit, in-limit, limit-in, is-waiting, waiting-is}
use Rattle.sessiontext.specs.Reading.Exact.{told_text, told-storable, told-written}
use Rattle.text.specs.Wrote.{Wrote}
use Rattle.sessiontext.specs.Private.Read.{ReadLine}
use Rattle.sessiontext.proofs.Own.{Own, own}
use Rattle.sessiontext.proofs.Told.{Compared}
use Rattle.sessiontext.proofs.Settled.{found-minus}

small : degree_limit < width
small = omega arith

-- ---- cuts
behind-missing : (b : ℕ) (t : Text) → holds b t ≡ false → behind b t ≡ []
behind-missing b [] e = refl
behind-missing b (x ∷ t) e = go (x =? b) e (behind-missing b t)
  where
    go : (c : Bool) → cond c true (holds b t) ≡ false → (holds b t ≡ false → behind b t ≡ [])
        → cond c t (behind b t) ≡ []
    go true e rest = absurd (false≢true (sym e))
    go false e rest = rest e

behind-at : (b : ℕ) (t : Text) {place : ℕ} → place ≡ min (length (before b t) + 1) (length t) → drop place t ≡ behind b
    t
behind-at b t {place} e = elim (dec_le (length t) (length (before b t))) [
  | yes l ↦
      let end : place ≡ length t = omega arith in
      rw end (drop-length t ∙ sym (behind-missing b t (byte-missing b t l)))
  | no g ↦
      let h = lt_of_not-le g in
      let next : place ≡ suc (length (before b t)) = omega arith in
      rw next (byte-found b t h).1
]

pub record Cuts (t : Text) (first start second last : ℕ) : Type 0 where
  pub first_fits : first ≤ length t
  pub from : start ≤ second
  pub second_fits : second ≤ length t
  pub sign : take first t ≡ before 59 t
  pub shape : take (second - start) (drop start t) ≡ before 59 (behind 59 t)
  pub class : take (length t - last) (drop last t) ≡ behind 59 (behind 59 t)

pub cuts : (t : Text) {first start second last : ℕ} → first ≡ 0 + length (before 59 (drop 0 t))
    → start ≡ min (first + 1) (length t)
    → second ≡ start + length (before 59 (drop start t))
    → last ≡ min (second + 1) (length t)
    → Cuts t first start second last
cuts t {first} {start} {second} {last} a b c d =
    let front : first ≡ length (before 59 t) = omega arith in
    let rest = behind-at 59 t {place = start} (rw front at b) in
    let left = length-drop start t in
    let size : second - start ≡ length (before 59 (drop start t)) = omega arith in
    let fits = before-fits 59 (drop start t) in
    let more : last - start ≡ min (length (before 59 (drop start t)) + 1) (length (drop start t)) = omega arith in
    let whole : start + (last - start) ≡ last = omega arith in
    record {
      first_fits = omega (arith, before-fits 59 t);
      from = omega arith;
      second_fits = omega arith;
      sign = rw front (before-take 59 t);
      shape = rw size (before-take 59 (drop start t) ∙ ap (before 59) rest);
      class =
          take_all (length t - last) (drop last t) (omega (arith, length-drop last t))
          ∙ ap (λ (k : ℕ). drop k t) (sym whole) ∙ sym (drop-drop (last - start) start t)
          ∙ behind-at 59 (drop start t) more ∙ ap (behind 59) rest;
    }

-- the minus is looked for in the sign's text
pub sign_read : {t : Text} {first start second last : ℕ} → Cuts t first start second last → {place : ℕ}
    → place ≡ 0 + length (before 45 (drop 0 (take first t))) → place <? first ≡ minus_in t
sign_read {t} {first} k {place} e =
    let long = length-take-le first t k.first_fits in
    let found = found-minus (take first t) e in
    rw (long, k.sign) at found

-- ---- what stands in the line
pub shape-kept : (ps : Parts) → shape_word ps % 2 ^ 31 ≡ shape_word ps
shape-kept ps =
    let small : shape_word ps < 2 ^ 30 = (good-shape (shape_word ps) (rows-good ps)).below in
    omega arith

module _ (t : Text) where
  abbrev pub limits : Bool
  limits = in_limit degree_limit (shape_in t) && in_limit degree_limit (class_in t)

  pub no-shape : in_limit degree_limit (shape_in t) ≡ false → limits ≡ false
  no-shape e = rw e refl

  pub no-class : in_limit degree_limit (shape_in t) ≡ true → in_limit degree_limit (class_in t) ≡ false → limits ≡ false
  no-class s e = rw (s, e) refl

  pub line_word : {minus : Bool} {shape class word : ℕ} → minus ≡ minus_in t
      → in_limit degree_limit (shape_in t) ≡ true → shape ≡ shape_word (shape_in t)
      → in_limit degree_limit (class_in t) ≡ true → class ≡ class_word (class_in t)
      → word ≡ word_of (plain minus (shape % 2 ^ 31) class) → ReadLine t (Some word)
  unfolding line_by
  line_word m s e c f w = (rw (s, c) refl, w ∙ rw (e, shape-kept (shape_in t), f, m) refl)

-- ---- comparing with what is written of the line that was read
module _ {f : Form} (fa : Faithful f) (t : Text) (fits : f.fits (weight_by f t) ≡ true)
    (shape : InLimit degree_limit (shape_in t)) (class : InLimit degree_limit (class_in t)) where
  pub compared : {b : Bool} → Compared b t (line_text_by f (line_by f t)) → b ≡ is_waiting_by f degree_limit t
  compared {b} c =
      let own = told_text degree_limit small fa t fits shape class in
      same_test b (is_waiting_by f degree_limit t)
      (λ e. waiting-is f degree_limit t
      (record { fits = fits; shape = shape; class = class; whole = c.0 e ∙ own }))
      (λ e. c.1 ((is-waiting f degree_limit t e).whole ∙ sym own))

pub both-limits : (t : Text) → (in_limit degree_limit (shape_in t) && in_limit degree_limit (class_in t)) ≡ true
    → InLimit degree_limit (shape_in t) × InLimit degree_limit (class_in t)
both-limits t e =
    let l = both (in_limit degree_limit (shape_in t)) (in_limit degree_limit (class_in t)) e in
    (in-limit degree_limit (shape_in t) l.0, in-limit degree_limit (class_in t) l.1)

module _ (t : Text) where
  pub waiting-unread : limits t ≡ false → is_waiting degree_limit t ≡ false
  waiting-unread e =
      same_test (is_waiting degree_limit t) false
      (λ b. let w = is-waiting plain_form degree_limit t b in
      absurd (false≢true (sym e ∙ rw (limit-in w.shape, limit-in w.class) refl)))
      (λ b. absurd (false≢true b))

  module _ (f : limits t ≡ true) where
    pub waiting-told : {b : Bool} → Compared b t (line_text (line_in t)) → b ≡ is_waiting degree_limit t
    waiting-told c = let l = both-limits t f in compared plain-faithful t refl l.0 l.1 c

    module _ {word : ℕ} (e : word ≡ word_of (line_in t)) where
      its-line : line_of word ≡ line_in t
      unfolding plain-faithful plain-lawful
      its-line =
          let l = both-limits t f in
          ap line_of e
          ∙ line_read (line_in t) (told-written degree_limit small plain-faithful t refl l.0 l.1)

      pub its-storable : StorableLine degree_limit (line_of word)
      its-storable =
          let l = both-limits t f in
          subst (λ (l : Line). StorableLine degree_limit l) (sym its-line)
          (told-storable degree_limit small plain-faithful t refl l.0 l.1)

      pub waiting-own : {before bytes : Text} {end : ℕ} → Wrote (line_text (line_of word)) 0 before end bytes
          → length before ≡ line_room → Own (line_text (line_in t)) end bytes
      waiting-own w room =
          let its-text = ap (λ (l : Line). line_text l) its-line in
          rw its-text at (own w (omega (arith, plain-line-short (line_of word) its-storable)) (omega arith))

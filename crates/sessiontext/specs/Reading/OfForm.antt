-- A line of text is of its form just where there is something whose text it is: what the reading makes of other lines
-- does not matter. So the tests of Reading say what document 02 says, and nothing of a way to read.
--   NumberText name bound t    there is a number below the bound whose line of this name t is
--   IntegerText t              there is a signed number of 64 bits whose `settled` line t is
--   PartsText limit name t     there is a partition within the limit whose line of this name t is
--   WaitingText fa limit t     there are a weight that comes back (the plain form's: 1 or -1) and two partitions within
--                              the limit whose `line` line t is
--   Silent name                a name without digits and commas
use Rattle.std.specs.Prelude.{◌≡◌, ◌≤◌, ◌<◌, ◌^◌}
use Rattle.theory.specs.Basics.{true, not, ℕ, ℤ, ◌=?◌, every}
use Rattle.theory.specs.Partition.{Parts}
use Rattle.theory.specs.Digits.{width}
use Rattle.text.specs.Text.{Text, ascii, decimal, integer, list_text, text_line, field}
use Rattle.textreading.specs.Reading.{is_digit, number_in, integer_in, before, list_in}
use Rattle.sessiontext.specs.SessionText.{held, Form, weighted_text}
use Rattle.sessiontext.specs.SessionText.Faithful.{Faithful}
use Rattle.sessiontext.specs.Reading.{is_number, is_integer, is_list, shape_in, class_in, weight_by, is_waiting_by}
use Rattle.sessiontext.specs.Reading.Forms.{InLimit, is-number, number_is, is-integer, integer-is}
use Rattle.sessiontext.specs.Reading.Forms.{is-list, list-is, is-waiting, waiting-is}
use Rattle.sessiontext.specs.Reading.Fields.{number-formed, settled-formed, list-formed, waiting-formed}

pub record NumberText (name : Text) (bound : ℕ) (t : Text) : Type 0 where
  pub number : ℕ
  pub small : number < bound
  pub whole : t ≡ text_line name (decimal number)

pub record IntegerText (t : Text) : Type 0 where
  pub number : ℤ
  pub fits : held number ≡ true
  pub whole : t ≡ field "settled=" (integer number)

pub record PartsText (limit : ℕ) (name t : Text) : Type 0 where
  pub parts : Parts
  pub within : InLimit limit parts
  pub whole : t ≡ text_line name (list_text parts)

pub record WaitingText {f : Form} (fa : Faithful f) (limit : ℕ) (t : Text) : Type 0 where
  pub weight : ℤ
  pub kept : fa.Kept weight
  pub shape : Parts
  pub class : Parts
  pub shape-within : InLimit limit shape
  pub class-within : InLimit limit class
  pub whole : t ≡ weighted_text (f.weight_text weight) shape class

pub record Silent (name : Text) : Type 0 where
  pub no_digit : every (λ b. not (is_digit b)) name ≡ true
  pub no-comma : every (λ b. not (b =? 44)) name ≡ true

module _ (name t : Text) (s : Silent name) where
  pub number-text : (bound : ℕ) → bound ≤ 2 ^ 64
      → (is_number name bound t ≡ true → NumberText name bound t) × (NumberText name bound t → is_number name bound t ≡ true)
  number-text bound h = (
    λ e. let n = is-number name bound t e in record { number = number_in t; small = n.small; whole = n.whole },
    λ n. rw n.whole (number_is (number-formed name s.no_digit n.number bound n.small h)),
  )

  pub parts-text : (limit : ℕ) → limit < width
      → (is_list limit name t ≡ true → PartsText limit name t) × (PartsText limit name t → is_list limit name t ≡ true)
  parts-text limit room = (
    λ e. let l = is-list limit name t e in record { parts = list_in t; within = l.within; whole = l.whole },
    λ p. rw p.whole (list-is (list-formed limit room name s.no_digit s.no-comma p.within)),
  )

pub integer-text : (t : Text)
    → (is_integer (ascii "settled=") t ≡ true → IntegerText t) × (IntegerText t → is_integer (ascii "settled=") t ≡ true)
integer-text t = (
  λ e.
      let n = is-integer (ascii "settled=") t e in
      record { number = integer_in t; fits = n.fits; whole = n.whole },
  λ n. rw n.whole (integer-is (settled-formed n.number n.fits)),
)

pub waiting-text : {f : Form} (fa : Faithful f) (limit : ℕ) → limit < width → (t : Text)
    → (is_waiting_by f limit t ≡ true → WaitingText fa limit t) × (WaitingText fa limit t → is_waiting_by f limit t ≡ true)
waiting-text {f} fa limit room t = (
  λ e.
      let w = is-waiting f limit t e in
      record {
        weight = weight_by f t;
        kept = fa.fits_kept (before 59 t) w.fits;
        shape = shape_in t;
        class = class_in t;
        shape-within = w.shape;
        class-within = w.class;
        whole = w.whole;
      },
  λ w.
      rw w.whole
      (waiting-is f limit _
      (waiting-formed limit room w.shape w.class w.shape-within w.class-within fa w.weight w.kept)),
)

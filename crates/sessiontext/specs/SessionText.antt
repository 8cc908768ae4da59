-- The text of a session (document 02, P1, "Write and read key=value lines in this order"; P7, "P1's text gets a line
-- `mode=gathered` before `degree` and the coefficient, with a minus where it is negative, in place of the sign").
--   held z                        a signed number of 64 bits holds z
--   sign_text minus                a minus, or a plus
--   Form                          the form of a text: its mode; the lines of text in front of the six; which weights it
--                                 can write; the text of a weight; the weight that is read off what stands before a
--                                 waiting line's first semicolon
--   plain_form, gathered_form       those of the two modes
--   value_text w shape class       the text w, shape and class, set apart by semicolons; weighted_text w .., that line
--   waiting_text minus ..          the same with a sign
--   line_text_by f l                the line of text for the waiting line l, by the form f; line_text, by the plain one
--   session_lines_by f slip lines   the lines of text for a slip and its waiting lines; session_text_by, one after the
--                                 other; session_lines, session_text, by the plain form
use Rattle.std.specs.Prelude.{◌∷◌, ◌++◌, ◌^◌}
use Rattle.std.specs.Int.Signed.{non_neg}
use Rattle.theory.specs.Basics.{Bool, true, not, cond, List, [], map, length, ℤ, pos, negsuc, nat_abs}
use Rattle.theory.specs.Basics.{◌<?◌, signed, joined}
use Rattle.theory.specs.Partition.{Parts, degree}
use Rattle.theory.specs.ShapeWord.{shape_of}
use Rattle.theory.specs.ClassWord.{class_of}
use Rattle.text.specs.Text.{Text, ascii, decimal, integer, list_text, field}
use Rattle.textreading.specs.Reading.{holds, integer_in}
use Rattle.pages.specs.Line.{Line}
use Rattle.pages.specs.declared.Slip.{Slip}
use Rattle.pages.specs.Mode.{Mode, plain_mode, gathered_mode}
pub mod Storable
pub mod Faithful
pub mod Laws
pub mod Room

abbrev pub held : ℤ → Bool
held (pos n) = n <? 2 ^ 63
held (negsuc n) = n <? 2 ^ 63

abbrev pub sign_text : Bool → Text
sign_text minus = cond minus (ascii "-") (ascii "+")

-- ---- forms
pub record Form : Type 1 where
  pub mode : Mode
  pub front : List Text
  pub fits : ℤ → Bool
  pub weight_text : ℤ → Text
  pub weight_in : Text → ℤ

abbrev pub plain_form : Form
plain_form = record {
  mode = plain_mode;
  front = [];
  fits = λ z. true;
  weight_text = λ z. sign_text (not (non_neg z));
  weight_in = λ t. signed (holds 45 t) (pos 1);
}

abbrev pub gathered_form : Form
gathered_form = record {
  mode = gathered_mode;
  front = field "mode=" (ascii "gathered") ∷ [];
  fits = held;
  weight_text = integer;
  weight_in = integer_in;
}

-- ---- lines of text
abbrev pub value_text : Text → Parts → Parts → Text
value_text weight shape class = weight ++ ascii ";" ++ list_text shape ++ ascii ";" ++ list_text class

unfoldable pub weighted_text : Text → Parts → Parts → Text
weighted_text weight shape class = field "line=" (value_text weight shape class)

abbrev pub waiting_text : Bool → Parts → Parts → Text
waiting_text minus shape class = weighted_text (sign_text minus) shape class

module _ (f : Form) where
  abbrev pub line_text_by : Line → Text
  line_text_by l = weighted_text (f.weight_text l.weight) (shape_of l.shape) (class_of l.class)

  unfoldable pub session_lines_by : Slip → List Line → List Text
  session_lines_by slip lines =
      f.front
      ++ (field "degree=" (decimal (degree (shape_of slip.shape)))
      ∷ field "shape=" (list_text (shape_of slip.shape))
      ∷ field "class=" (list_text (class_of slip.class))
      ∷ field "steps=" (decimal (nat_abs slip.steps))
      ∷ field "settled=" (integer slip.settled)
      ∷ field "lines=" (decimal (length lines))
      ∷ map line_text_by lines)

  unfoldable pub session_text_by : Slip → List Line → Text
  session_text_by slip lines = joined (λ t. t) (session_lines_by slip lines)

-- ---- by the plain form
abbrev pub line_text : Line → Text
line_text l = line_text_by plain_form l

abbrev pub session_lines : Slip → List Line → List Text
session_lines slip lines = session_lines_by plain_form slip lines

abbrev pub session_text : Slip → List Line → Text
session_text slip lines = session_text_by plain_form slip lines

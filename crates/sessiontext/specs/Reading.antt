-- What a text is read as by a form, and which of its lines is at fault (document 02, P1, refusal 16; P7, "in this mode
-- only"). A line of text is of its form where it is exactly the text of what is read off it (Reading/OfForm: there is
-- something whose text it is).
--   in_limit limit ps              ps is a partition of a degree within the limit
--   is_number name bound t         t is a line of this name and a number below a bound; is_integer, and a signed number
--                                 of 64 bits; is_list, and the parts of a partition within the limit
--   shape_in, class_in              what is read off the text of a waiting line; weight_by f, its weight
--   is_waiting_by f limit t         whether it is of its form
--   line_by f t                    the waiting line that t is read as
--   body_by f text                 the lines of the text behind those that the form has in front
--   at_by f text i                 line i of these, from 0, and nothing past the last; following_by f text, from 6 on
--   front_faults k front ts        a check for each line in front that is not the one of ts, numbered from k
--   line_faults_by f limit k ts     a check for each line that is not the text of a waiting line, numbered from k
--   head_faults_by f limit text     the checks of the first six lines behind those in front
--   fault_by f limit text          the first line that is at fault by one of faults_by, all checks; 0 if there is none
--   slip_by f text, lines_by f text the slip and the waiting lines that the text is read as
--   without `_by`                 these by the plain form; minus_in, whether a minus stands where the sign does
use Rattle.std.specs.Prelude.{◌&&◌, ◌∷◌, ◌++◌, ◌+◌, ◌^◌}
use Rattle.theory.specs.Basics.{Bool, not, List, [], map, length, get_or, drop, ℕ, suc, ℤ, pos}
use Rattle.theory.specs.Basics.{◌=?◌, ◌<?◌, ◌≤?◌, same}
use Rattle.theory.specs.Partition.{Parts, is_partition, degree}
use Rattle.theory.specs.ShapeWord.{shape_word}
use Rattle.theory.specs.ClassWord.{class_word}
use Rattle.theory.specs.Refusals.{Check, first_of}
use Rattle.text.specs.Text.{Text, ascii, decimal, integer, list_text, text_line, field}
use Rattle.textreading.specs.Reading.{number_in, holds, integer_in, before, behind, list_in, lines_of}
use Rattle.pages.specs.Line.{Line}
use Rattle.pages.specs.declared.Slip.{Slip}
use Rattle.pages.specs.Page.{slip_of}
use Rattle.sessiontext.specs.SessionText.{held, Form, plain_form, weighted_text}
pub mod Forms
pub mod Fields
pub mod OfForm
pub mod Back
pub mod Exact

-- ---- lines of text
abbrev pub in_limit : ℕ → Parts → Bool
in_limit limit ps = is_partition ps && degree ps ≤? limit

unfoldable pub is_number : Text → ℕ → Text → Bool
is_number name bound t = number_in t <? bound && same t (text_line name (decimal (number_in t)))

unfoldable pub is_integer : Text → Text → Bool
is_integer name t = held (integer_in t) && same t (text_line name (integer (integer_in t)))

unfoldable pub is_list : ℕ → Text → Text → Bool
is_list limit name t = in_limit limit (list_in t) && same t (text_line name (list_text (list_in t)))

-- ---- the text of a waiting line
abbrev pub shape_in : Text → Parts
shape_in t = list_in (before 59 (behind 59 t))

abbrev pub class_in : Text → Parts
class_in t = list_in (behind 59 (behind 59 t))

abbrev pub front_faults : ℕ → List Text → List Text → List Check
front_faults k [] ts = []
front_faults k (line ∷ front) ts = (not (same (get_or ts 0 []) line), k) ∷ front_faults (suc k) front (drop 1 ts)

module _ (f : Form) where
  abbrev pub weight_by : Text → ℤ
  weight_by t = f.weight_in (before 59 t)

  unfoldable pub is_waiting_by : ℕ → Text → Bool
  is_waiting_by limit t =
      f.fits (weight_by t)
      && (in_limit limit (shape_in t) && in_limit limit (class_in t)
      && same t (weighted_text (f.weight_text (weight_by t)) (shape_in t) (class_in t)))

  unfoldable pub line_by : Text → Line
  line_by t = record { weight = weight_by t; shape = shape_word (shape_in t); class = class_word (class_in t) }

  -- ---- a text
  abbrev pub body_by : Text → List Text
  body_by text = drop (length f.front) (lines_of text)

  abbrev pub at_by : Text → ℕ → Text
  at_by text i = get_or (body_by text) i []

  abbrev pub following_by : Text → List Text
  following_by text = drop 6 (body_by text)

  abbrev pub line_faults_by : ℕ → ℕ → List Text → List Check
  line_faults_by limit k [] = []
  line_faults_by limit k (t ∷ ts) = (not (is_waiting_by limit t), k) ∷ line_faults_by limit (suc k) ts

  -- a degree that is not the shape's is the degree's fault, unless the line of the shape is of no shape
  abbrev pub head_faults_by : ℕ → Text → List Check
  head_faults_by limit text =
      (not (is_number (ascii "degree=") (2 ^ 64) (at_by text 0)), n + 1)
      ∷ (
        is_list limit (ascii "shape=") (at_by text 1) && not (number_in (at_by text 0) =? degree (list_in (at_by text 1))),
        n + 1,
      )
      ∷ (not (is_list limit (ascii "shape=") (at_by text 1)), n + 2)
      ∷ (not (is_list limit (ascii "class=") (at_by text 2)), n + 3)
      ∷ (not (is_number (ascii "steps=") (2 ^ 63) (at_by text 3)), n + 4)
      ∷ (not (is_integer (ascii "settled=") (at_by text 4)), n + 5)
      ∷ (not (same (at_by text 5) (field "lines=" (decimal (length (following_by text))))), n + 6)
      ∷ []
    where
      n : ℕ
      n = length f.front

  unfoldable pub faults_by : ℕ → Text → List Check
  faults_by limit text =
      front_faults 1 f.front (lines_of text)
      ++ (head_faults_by limit text ++ line_faults_by limit (length f.front + 7) (following_by text))

  unfoldable pub fault_by : ℕ → Text → ℕ
  fault_by limit text = first_of (faults_by limit text)

  unfoldable pub slip_by : Text → Slip
  slip_by text =
      slip_of (shape_word (list_in (at_by text 1))) (class_word (list_in (at_by text 2))) (integer_in (at_by text 4))
      (length (following_by text)) (pos (number_in (at_by text 3))) f.mode.number

  unfoldable pub lines_by : Text → List Line
  lines_by text = map line_by (following_by text)

-- ---- by the plain form
abbrev pub minus_in : Text → Bool
minus_in t = holds 45 (before 59 t)

abbrev pub is_waiting : ℕ → Text → Bool
is_waiting limit t = is_waiting_by plain_form limit t

abbrev pub line_in : Text → Line
line_in t = line_by plain_form t

abbrev pub at : Text → ℕ → Text
at text i = at_by plain_form text i

abbrev pub following : Text → List Text
following text = following_by plain_form text

abbrev pub line_faults : ℕ → ℕ → List Text → List Check
line_faults limit k ts = line_faults_by plain_form limit k ts

abbrev pub head_faults : ℕ → Text → List Check
head_faults limit text = head_faults_by plain_form limit text

abbrev pub fault : ℕ → Text → ℕ
fault limit text = fault_by plain_form limit text

abbrev pub slip_in : Text → Slip
slip_in text = slip_by plain_form text

abbrev pub lines_in : Text → List Line
lines_in text = lines_by plain_form text

-- The text of P1's issue, written and read (E11 of document 01 after its first strike), and texts that are refused; the
-- same for a text of the gathered form.
use Rattle.std.specs.Prelude.{◌≡◌, refl, ◌∷◌, ◌++◌}
use Rattle.theory.specs.Basics.{true, [], ℕ, pos, negsuc}
use Rattle.theory.specs.Digits.{digits, word}
use Rattle.theory.specs.ShapeWord.{shape_word}
use Rattle.theory.specs.ClassWord.{class_word}
use Rattle.theory.specs.Limits.{degree_limit}
use Rattle.text.specs.Text.{Text, ascii, decimal, integer, commas}
use Rattle.textreading.specs.Reading.{number_in, integer_in, list_in, lines_of}
use Rattle.pages.specs.declared.Slip.{Slip}
use Rattle.pages.specs.Line.{Line}
use Rattle.pages.specs.Page.{slip_of, word_of}
use Rattle.pages.specs.Page.{plain}
use Rattle.sessiontext.specs.SessionText.{gathered_form, weighted_text, session_lines_by, session_text_by, session_text}
use Rattle.sessiontext.specs.Reading.{is_number, is_integer, is_list, is_waiting_by, line_by, faults_by, fault_by, slip_by}
use Rattle.sessiontext.specs.Reading.{lines_by, fault, slip_in, lines_in}

abbrev pub struck : Slip
struck = slip_of (shape_word (3 ∷ 2 ∷ [])) (class_word (3 ∷ 2 ∷ [])) (pos 0) 1 (pos 1) 0

-- minus (1,1) on (2)
abbrev pub left : Line
left = plain true (shape_word (1 ∷ 1 ∷ [])) (class_word (2 ∷ []))

abbrev pub issue : Text
issue = ascii "degree=5\nshape=3,2\nclass=3,2\nsteps=1\nsettled=0\nlines=1\nline=-;1,1;2\n"

-- a text whose first four lines are good, and which ends so
abbrev pub from_settled : Text → Text
from_settled t = ascii "degree=0\nshape=\nclass=\nsteps=0\n" ++ t

abbrev at-fault : Text → ℕ
at-fault text = fault degree_limit text

-- ---- the gathered form
abbrev pub halted : Slip
halted = slip_of (shape_word (3 ∷ 2 ∷ [])) (class_word (2 ∷ 1 ∷ 1 ∷ 1 ∷ [])) (pos 0) 2 (pos 2) 1

-- (2,1) once and minus 3 times (3), on (1,1,1)
abbrev pub once : Line
once = record { weight = pos 1; shape = shape_word (2 ∷ 1 ∷ []); class = class_word (1 ∷ 1 ∷ 1 ∷ []) }

abbrev pub thrice : Line
thrice = record { weight = negsuc 2; shape = shape_word (3 ∷ []); class = class_word (1 ∷ 1 ∷ 1 ∷ []) }

abbrev gathered-head : Text
gathered-head = ascii "mode=gathered\ndegree=5\nshape=3,2\nclass=2,1,1,1\nsteps=2\nsettled=0\n"

abbrev pub gathered-text : Text
gathered-text = gathered-head ++ ascii "lines=2\nline=1;2,1;1,1,1\nline=-3;3;1,1,1\n"

abbrev gathered-fault : Text → ℕ
gathered-fault text = fault_by gathered_form degree_limit text

pub record Examples : Type 0 where
  pub written : session_text struck (left ∷ []) ≡ issue
  pub its-word : word_of left ≡ 0x9000000020000000
  pub no-fault : at-fault issue ≡ 0
  pub its-slip : slip_in issue ≡ struck
  pub its-lines : lines_in issue ≡ left ∷ []
  -- the lines of a text
  pub empty : at-fault [] ≡ 1
  pub three-lines : at-fault (ascii "degree=5\nshape=3,2\nclass=3,2\n") ≡ 4
  pub no-newline : at-fault (ascii "degree=5") ≡ 1
  -- line 1 is at fault for line 2's degree, unless line 2 is at fault itself
  pub other-degree : at-fault (ascii "degree=6\nshape=3,2\n") ≡ 1
  pub rising-shape : at-fault (ascii "degree=6\nshape=2,3\n") ≡ 2
  pub shape-of-17 : at-fault (ascii "degree=17\nshape=17\n") ≡ 2
  pub too-big : at-fault (ascii "degree=18446744073709551616\nshape=17\n") ≡ 1
  pub class-of-17 : at-fault (ascii "degree=0\nshape=\nclass=9,8\n") ≡ 3
  -- numbers
  pub minus-zero : at-fault (from_settled (ascii "settled=-0\nlines=0\n")) ≡ 5
  pub plus_one : at-fault (from_settled (ascii "settled=+1\nlines=0\n")) ≡ 5
  pub needless-zero : at-fault (from_settled (ascii "settled=01\nlines=0\n")) ≡ 5
  pub least : at-fault (from_settled (ascii "settled=-9223372036854775808\nlines=0\n")) ≡ 0
  pub below-least : at-fault (from_settled (ascii "settled=-9223372036854775809\nlines=0\n")) ≡ 5
  pub steps-too-big : at-fault (ascii "degree=0\nshape=\nclass=\nsteps=9223372036854775808\n") ≡ 4
  -- line 6 counts all that follow, whatever they hold
  pub more-lines : at-fault (from_settled (ascii "settled=1\nlines=0\nrest")) ≡ 6
  pub bad-line : at-fault (from_settled (ascii "settled=1\nlines=1\nrest")) ≡ 7
  -- a line of two degrees is of the form
  pub two-degrees : at-fault (from_settled (ascii "settled=1\nlines=2\nline=+;;\nline=-;2,1;16\n")) ≡ 0
  -- the gathered form
  pub gathered-written : session_text_by gathered_form halted (once ∷ thrice ∷ []) ≡ gathered-text
  pub gathered-good : gathered-fault gathered-text ≡ 0
  pub gathered-slip : slip_by gathered_form gathered-text ≡ halted
  pub gathered-lines : lines_by gathered_form gathered-text ≡ once ∷ thrice ∷ []
  pub no_mode : gathered-fault issue ≡ 1
  pub other-form : at-fault gathered-text ≡ 1
  pub gathered-steps : gathered-fault (ascii "mode=gathered\ndegree=0\nshape=\nclass=\nsteps=-1\n") ≡ 5
  -- a coefficient has no plus and no minus zero; 0 is of the form, and only unsound
  pub with-a-plus : gathered-fault (gathered-head ++ ascii "lines=2\nline=-3;3;1,1,1\nline=+1;2,1;1,1,1\n") ≡ 9
  pub with-minus-zero : gathered-fault (gathered-head ++ ascii "lines=1\nline=-0;2,1;1,1,1\n") ≡ 8
  pub coefficient-zero : gathered-fault (gathered-head ++ ascii "lines=1\nline=0;2,1;1,1,1\n") ≡ 0

pub examples : Examples
unfolding digits word decimal integer commas number_in integer_in list_in lines_of weighted_text session_lines_by
    session_text_by is_number is_integer is_list is_waiting_by line_by faults_by fault_by slip_by lines_by
examples = record {
  written = refl;
  its-word = refl;
  no-fault = refl;
  its-slip = refl;
  its-lines = refl;
  empty = refl;
  three-lines = refl;
  no-newline = refl;
  other-degree = refl;
  rising-shape = refl;
  shape-of-17 = refl;
  too-big = refl;
  class-of-17 = refl;
  minus-zero = refl;
  plus_one = refl;
  needless-zero = refl;
  least = refl;
  below-least = refl;
  steps-too-big = refl;
  more-lines = refl;
  bad-line = refl;
  two-degrees = refl;
  gathered-written = refl;
  gathered-good = refl;
  gathered-slip = refl;
  gathered-lines = refl;
  no_mode = refl;
  other-form = refl;
  gathered-steps = refl;
  with-a-plus = refl;
  with-minus-zero = refl;
  coefficient-zero = refl;
}

-- What the private readers of a gathered session's text are asked, and what they answer.
--   TellsLine test t r        what the line t is read as, where the test holds: its word and its coefficient
--   ToldWeighted t r          so of what stands in t, whatever its form, where 64 bits hold the coefficient and shape and
--                             class are in the limit; ReadWeighted t r, where t is of its form
--   FirstFault ts r            the first of the lines ts that is not of its form
--   read_as ts                 the lines that the texts ts are read as
--   PutDown ts page column .. what the lines ts are read as stands at the front of a page and of a column
--   fronted_faults text        the checks of the first seven lines
--   FrontedHead text h         they are of their form, and h is what they tell; ReadFronted text r, r is that, or the
--                             first of them at fault
--   AllFormed text start slip the lines of the text from a place on are of their form, and as many as the slip says
use Rattle.std.specs.Prelude.{◌≡◌, ◌≢◌, ◌≤◌, ◌&&◌, ◌++◌, Option, MatchOption, Result, MatchResult}
use Rattle.std.proofs.lemmas.List.Edits.{sets}
use Rattle.theory.specs.Basics.{Bool, true, false, List, map, ℕ, ℤ, length, drop, Each}
use Rattle.theory.specs.Limits.{degree_limit, page_limit}
use Rattle.theory.specs.Refusals.{Check, first_of}
use Rattle.text.specs.Text.{Text}
use Rattle.textreading.specs.Reading.{lines_of}
use Rattle.pages.specs.declared.Slip.{Slip}
use Rattle.pages.specs.Line.{Line}
use Rattle.pages.specs.Page.{word_of}
use Rattle.pages.specs.Mode.{unit, words_of, weights_of}
use Rattle.sessiontext.specs.declared.coefficients.Weighted.{Weighted}
use Rattle.sessiontext.specs.declared.reading.FirstLines.{FirstLines}
use Rattle.sessiontext.specs.SessionText.{held, gathered_form}
use Rattle.sessiontext.specs.Reading.{in_limit, shape_in, class_in, front_faults, is_waiting_by, line_by, weight_by, line_faults_by}
use Rattle.sessiontext.specs.Reading.{following_by, head_faults_by, slip_by}
use Rattle.sessiontext.specs.Reading.Forms.{WaitingBy}

abbrev pub TellsLine : Bool → Text → Option Weighted → Type 0
TellsLine test t r =
    MatchOption r (test ≡ false) (λ l.
    (test ≡ true) × (l.word ≡ word_of (unit (line_by gathered_form t))) × (l.coefficient ≡ weight_by gathered_form t))

abbrev pub ToldWeighted : Text → Option Weighted → Type 0
ToldWeighted t r =
    TellsLine
    (held (weight_by gathered_form t) && (in_limit degree_limit (shape_in t) && in_limit degree_limit (class_in t)))
    t r

abbrev pub ReadWeighted : Text → Option Weighted → Type 0
ReadWeighted t r = TellsLine (is_waiting_by gathered_form degree_limit t) t r

-- ---- lines
abbrev pub read_as : List Text → List Line
read_as ts = map (line_by gathered_form) ts

abbrev pub FirstFault : List Text → Option ℕ → Type 0
FirstFault ts r =
    MatchOption r (first_of (line_faults_by gathered_form degree_limit 8 ts) ≡ 0) (λ line.
    (line ≡ first_of (line_faults_by gathered_form degree_limit 8 ts)) × (line ≢ 0))

pub record PutDown (ts : List Text) (page : List ℕ) (column : List ℤ) (after : List ℕ) (beside : List ℤ) : Type 0 where
  pub words : after ≡ sets page 0 (words_of (read_as ts))
  pub weights : beside ≡ sets column 0 (weights_of (read_as ts))

pub record AllFormed (text : Text) (start : ℕ) (slip : Slip) : Type 0 where
  pub fits : start ≤ length text
  pub formed : Each (WaitingBy gathered_form degree_limit) (lines_of (drop start text))
  pub count : slip.lines ≡ length (lines_of (drop start text))
  pub few : slip.lines ≤ page_limit
  pub mode : slip.mode ≡ 1

-- ---- the first seven lines
abbrev pub fronted_faults : Text → List Check
fronted_faults text = front_faults 1 gathered_form.front (lines_of text) ++ head_faults_by gathered_form degree_limit text

pub record FrontedHead (text : Text) (h : FirstLines) : Type 0 where
  pub passes : first_of (fronted_faults text) ≡ 0
  pub slip : h.slip ≡ slip_by gathered_form text
  pub far : 7 ≤ h.end
  pub fits : h.end ≤ length text
  pub rest : lines_of (drop h.end text) ≡ following_by gathered_form text

abbrev pub ReadFronted : Text → Result FirstLines ℕ → Type 0
ReadFronted text r =
    MatchResult r (FrontedHead text) (λ line. (line ≡ first_of (fronted_faults text)) × (line ≢ 0))

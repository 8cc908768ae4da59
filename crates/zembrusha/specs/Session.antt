-- Sessions as C makes them (demand 3, through the exports), by a form f: after an accepted opening any exported
-- previews, commits, watches, saves, loads and refused openings, each meeting its contract, the latest slip and what is
-- lent handed on. L is what is lent.
--   Call L               a call of an export: its arguments, its answer, and what was lent as it returned
--   taken answer         the calculator's answer that was handed over as this one; taken_count and taken_load so too
--   Promised f s x call  the call, made with the slip that is given as s on x, meets its contract
--   theirs f s x call    the calculator's call that asks and answers the same; of a watch's answer an export gives one
--                        part: the whole number, the ratio or the refusal number; their_next now call, made at `now`
--   Run f now calls end  from `now` the calls lead to `end`; a run stands where the calculator's does
--   Session f ..         an accepted `zembrusha_open`, or in the gathered mode `zembrusha_gathered_open`, of a shape on
--                        a class, on x, and a run from there
--   first s              where the session s stands when it was opened
--   all_theirs now calls  the calculator's calls that ask and answer the same, one after the other
use Rattle.std.specs.Prelude.{◌≡◌, Float, ◌∷◌}
use Rattle.theory.specs.Basics.{List, [], ℕ, ℤ}
use Rattle.theory.specs.Limits.{degree_limit}
use Rattle.words.specs.Answers.{CountAnswer}
use Rattle.words.specs.Answers.{Outcome}
use Rattle.text.specs.Text.{Text}
use Rattle.pages.specs.declared.Slip as calculator-slip
use Rattle.sessions.specs.Opening as calculator-handed
use Rattle.sessions.specs.Opening.{opening_in}
use Rattle.sessions.specs.Step.{preview_in, commit_in}
use Rattle.characters.specs.Watch.{watch_in}
use Rattle.characters.specs.Watch.Answers.{said}
use Rattle.sessiontext.specs.Calls as calculator-loaded
use Rattle.sessiontext.specs.SessionText.{Form}
use Rattle.sessiontext.specs.Calls.{save_by, load_by}
use Rattle.sessionruns.specs.Run as calculator
use Rattle.sessionruns.specs.Run.{Standing, Belongs, after, begun}
use Rattle.zembrusha.specs.declared.Number.{Number}
use Rattle.zembrusha.specs.declared.Handed.{Handed}
use Rattle.zembrusha.specs.declared.Loaded.{Loaded}
use Rattle.zembrusha.specs.Exports.{counted, given, handed_run, loaded_run, number, fraction}
pub mod Laws

pub data Call (L : Type 0) : Type 0 where
  opened : (shape class : ℕ) → Handed → (left : L) → Call L
  previewed : (line cycle : ℕ) (strip : List ℕ) → Number → (left : List ℕ) → Call L
  committed : (line cycle : ℕ) (strip : List ℕ) → Handed → (left : L) → Call L
  watched-whole : (kind line : ℕ) → ℤ → Call L
  watched-ratio : (kind line : ℕ) → Float → Call L
  watched-refusal : (kind line : ℕ) → ℕ → Call L
  saved : (out : Text) → Number → (left : Text) → Call L
  loaded : (text : Text) → Loaded → (left : L) → Call L

-- ---- answers
abbrev pub taken : Handed → calculator-handed.Handed
taken a = record { refused = a.refused; slip = given a.slip }

abbrev pub taken_count : Number → CountAnswer
taken_count a = record { refused = a.refused; count = a.number }

abbrev pub taken_load : Loaded → calculator-loaded.Loaded
taken_load a = record { refused = a.refused; line = a.line; slip = given a.slip }

-- ---- a call
module _ (f : Form) (s : calculator-slip.Slip) (x : f.mode.Lent) where
  abbrev pub Promised : Call f.mode.Lent → Type 0
  Promised (opened shape class a y) = Outcome (handed_run (opening_in f.mode degree_limit shape class x)) a y
  Promised (previewed line cycle strip a left) =
      Outcome (counted (preview_in f.mode degree_limit s x line cycle strip)) a left
  Promised (committed line cycle strip a y) =
      Outcome (handed_run (commit_in f.mode degree_limit s x line cycle strip)) a y
  Promised (watched-whole kind line z) = z ≡ number (watch_in f.mode degree_limit s x kind line).1
  Promised (watched-ratio kind line q) = q ≡ fraction (watch_in f.mode degree_limit s x kind line).1
  Promised (watched-refusal kind line k) = k ≡ (watch_in f.mode degree_limit s x kind line).0
  Promised (saved out a left) = Outcome (counted (save_by f degree_limit s x out)) a left
  Promised (loaded text a y) = Outcome (loaded_run (load_by f degree_limit text x)) a y

  abbrev watched : ℕ → ℕ → calculator.Call f.mode.Lent
  watched kind line = calculator.watched kind line (said (watch_in f.mode degree_limit s x kind line))

  abbrev pub theirs : Call f.mode.Lent → calculator.Call f.mode.Lent
  theirs (opened shape class a y) = calculator.opened shape class (taken a) y
  theirs (previewed line cycle strip a left) = calculator.previewed line cycle strip (taken_count a) left
  theirs (committed line cycle strip a y) = calculator.committed line cycle strip (taken a) y
  theirs (watched-whole kind line z) = watched kind line
  theirs (watched-ratio kind line q) = watched kind line
  theirs (watched-refusal kind line k) = watched kind line
  theirs (saved out a left) = calculator.saved out (taken_count a) left
  theirs (loaded text a y) = calculator.loaded text (taken_load a) y

-- ---- calls one after the other
module _ (f : Form) where
  abbrev pub their_next : Standing f.mode.Lent → Call f.mode.Lent → calculator.Call f.mode.Lent
  their_next now call = theirs f now.slip now.lent call

  unfoldable pub Run : Standing f.mode.Lent → List (Call f.mode.Lent) → Standing f.mode.Lent → Type 0
  Run now [] end = end ≡ now
  Run now (call ∷ calls) end =
      Promised f now.slip now.lent call × Belongs now.saves (their_next now call)
      × Run (after now (their_next now call)) calls end

  pub record Session (shape class : ℕ) (x : f.mode.Lent) (calls : List (Call f.mode.Lent))
      (end : Standing f.mode.Lent) : Type 0 where
    pub answer : Handed
    pub lent : f.mode.Lent
    pub promised : Outcome (handed_run (opening_in f.mode degree_limit shape class x)) answer lent
    pub accepted : answer.refused ≡ 0
    pub goes_on : Run (begun (given answer.slip) lent) calls end

  abbrev pub first : {shape class : ℕ} {x : f.mode.Lent} {calls : List (Call f.mode.Lent)}
      {end : Standing f.mode.Lent} → Session shape class x calls end → Standing f.mode.Lent
  first s = begun (given s.answer.slip) s.lent

  unfoldable pub all_theirs : Standing f.mode.Lent → List (Call f.mode.Lent)
      → List (calculator.Call f.mode.Lent)
  all_theirs now [] = []
  all_theirs now (call ∷ calls) = their_next now call ∷ all_theirs (after now (their_next now call)) calls

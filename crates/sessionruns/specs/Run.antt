-- Runs (demand 3, cited in document 01, "What the contracts have to say", and in document 02, P1, P3 and P7): after an
-- accepted opening any previews, commits, watches, saves, loads and refused openings, each meeting its promise, the
-- latest slip and what is lent handed on, the page and, in the gathered mode, its column. A commit is handed any strip,
-- whether it was previewed or not. An accepted opening ends a run, and so does an accepted load of a text that was not
-- saved in it. L is what is lent; a form f has a mode, and what that mode lends.
--   Call L                    a call: its arguments, the strip that it was lent among them, its answer, and what was
--                             lent as it returned
--   Standing L                where a run stands: its slip and what is lent, how many accepted commits count, and the
--                             texts that were saved, the latest first, each with the count at its save; standing .., by
--                             its fields
--   counts_at text saves       the counts at the saves of this text, the latest first
--   Promised f .. s x call    the call, made with slip s on x, meets its promise
--   Belongs saves call        the call does not end the run
--   after now call            where the run stands after a call
--   Run f .. now calls end    from `now` the calls lead to `end`, each promised and belonging to the run
--   Session f ..              an accepted opening of a shape on a class, on x, and a run from there
--   begun slip x              where a session stands when it was opened: no step counts, nothing was saved
--   is_watch call              it is a watch, or a preview, which counts as one
--   unwatched calls           the calls with these struck; commits are handed the same strips
use Rattle.std.specs.Prelude.{◌≡◌, ◌∷◌, ◌+◌}
use Rattle.theory.specs.Basics.{Bool, true, false, not, cond, List, [], map, get_or, take, ℕ, ◌=?◌, keep, same}
use Rattle.words.specs.Answers.{CountAnswer}
use Rattle.words.specs.Answers.{Outcome}
use Rattle.text.specs.Text.{Text}
use Rattle.pages.specs.declared.Slip.{Slip}
use Rattle.sessions.specs.Opening.{Handed}
use Rattle.characters.specs.declared.Watched.{Watched}
use Rattle.sessions.specs.Opening.{opening_in}
use Rattle.sessions.specs.Step.{preview_in, commit_in}
use Rattle.characters.specs.Watch.{reads, watch_in}
use Rattle.sessiontext.specs.Calls.{Loaded}
use Rattle.sessiontext.specs.SessionText.{Form}
use Rattle.sessiontext.specs.Calls.{save_by, load_by}
pub mod Parts
pub mod Leads
pub mod Kept
pub mod Back
pub mod Demand3
pub mod Modes
pub mod Always
pub mod Requests
pub mod Counted
pub mod Resumed

pub data Call (L : Type 0) : Type 0 where
  opened : (shape class : ℕ) → Handed → (left : L) → Call L
  previewed : (line cycle : ℕ) (strip : List ℕ) → CountAnswer → (left : List ℕ) → Call L
  committed : (line cycle : ℕ) (strip : List ℕ) → Handed → (left : L) → Call L
  watched : (kind line : ℕ) → Watched → Call L
  saved : (out : Text) → CountAnswer → (left : Text) → Call L
  loaded : (text : Text) → Loaded → (left : L) → Call L

abbrev pub Saves : Type 0
Saves = List (Text × ℕ)

abbrev pub counts_at : Text → Saves → List ℕ
counts_at text saves = map (λ save. save.1) (keep (λ save. same text save.0) saves)

pub record Standing (L : Type 0) : Type 0 where
  pub slip : Slip
  pub lent : L
  pub counted : ℕ
  pub saves : Saves

abbrev pub standing : {L : Type 0} → Slip → L → ℕ → Saves → Standing L
standing slip lent counted saves = record { slip = slip; lent = lent; counted = counted; saves = saves }

-- ---- a call
module _ (f : Form) (limit : ℕ) (s : Slip) (x : f.mode.Lent) where
  abbrev pub Promised : Call f.mode.Lent → Type 0
  Promised (opened shape class a y) = Outcome (opening_in f.mode limit shape class x) a y
  Promised (previewed line cycle strip a left) = Outcome (preview_in f.mode limit s x line cycle strip) a left
  Promised (committed line cycle strip a y) = Outcome (commit_in f.mode limit s x line cycle strip) a y
  Promised (watched kind line a) = reads a ≡ watch_in f.mode limit s x kind line
  Promised (saved out a left) = Outcome (save_by f limit s x out) a left
  Promised (loaded text a y) = Outcome (load_by f limit text x) a y

module _ {L : Type 0} where
  abbrev pub Belongs : Saves → Call L → Type 0
  Belongs saves (opened shape class a y) = a.refused ≡ 0 → ⊥
  Belongs saves (previewed line cycle strip a left) = Unit {0}
  Belongs saves (committed line cycle strip a y) = Unit {0}
  Belongs saves (watched kind line a) = Unit {0}
  Belongs saves (saved out a left) = Unit {0}
  Belongs saves (loaded text a y) = a.refused ≡ 0 → counts_at text saves ≡ [] → ⊥

  -- a refused opening's or load's blank slip is laid aside; a load puts the count back to what it was at that save
  abbrev pub after : Standing L → Call L → Standing L
  after now (opened shape class a y) = standing now.slip y now.counted now.saves
  after now (previewed line cycle strip a left) = now
  after now (committed line cycle strip a y) =
      standing a.slip y (now.counted + cond (a.refused =? 0) 1 0) now.saves
  after now (watched kind line a) = now
  after now (saved out a left) =
      standing now.slip now.lent now.counted
      (cond (a.refused =? 0) ((take a.count left, now.counted) ∷ now.saves) now.saves)
  after now (loaded text a y) =
      standing (cond (a.refused =? 0) a.slip now.slip) y
      (cond (a.refused =? 0) (get_or (counts_at text now.saves) 0 0) now.counted) now.saves

  -- ---- calls one after the other
  abbrev pub begun : Slip → L → Standing L
  begun slip lent = standing slip lent 0 []

  abbrev pub is_watch : Call L → Bool
  is_watch (opened shape class a y) = false
  is_watch (previewed line cycle strip a left) = true
  is_watch (committed line cycle strip a y) = false
  is_watch (watched kind line a) = true
  is_watch (saved out a left) = false
  is_watch (loaded text a y) = false

  abbrev pub unwatched : List (Call L) → List (Call L)
  unwatched calls = keep (λ call. not (is_watch call)) calls

module _ (f : Form) (limit : ℕ) where
  unfoldable pub Run : Standing f.mode.Lent → List (Call f.mode.Lent) → Standing f.mode.Lent → Type 0
  Run now [] end = end ≡ now
  Run now (call ∷ calls) end =
      Promised f limit now.slip now.lent call × Belongs now.saves call × Run (after now call) calls end

  pub record Session (shape class : ℕ) (x : f.mode.Lent) (calls : List (Call f.mode.Lent))
      (end : Standing f.mode.Lent) : Type 0 where
    pub answer : Handed
    pub lent : f.mode.Lent
    pub promised : Outcome (opening_in f.mode limit shape class x) answer lent
    pub accepted : answer.refused ≡ 0
    pub goes_on : Run (begun answer.slip lent) calls end

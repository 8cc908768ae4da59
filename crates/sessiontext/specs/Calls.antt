-- What saving and loading promise (document 02, P1: "saving checks 6, 7, 17", "loading checks 6, 16, 10, 7"; P7, "21
-- coefficient column not as long as the page, after 6"), by a form f; without `_by`, by the plain form.
--   loaded k line slip   a slip with the refusal number k and, where that is 16, the text's line at fault
--   loaded_told r        what is told of a call that gives r
--   save_by f ..          the text of a session at the front of lent bytes, the rest stays, and its length; save_into
--   load_checks_by f ..    the checks of a load, in their order; load_checks
--   load_by f ..          the slip that a text is read as, its lines on what is lent and zeros after them; load_into
use Rattle.std.specs.Prelude.{◌∷◌, ◌++◌}
use Rattle.theory.specs.Basics.{cond, List, [], ℕ, ◌=?◌}
use Rattle.theory.specs.Refusals.{Check, first_of, refused_or, no-7, no-10, no-16, no-17}
use Rattle.words.specs.Answers.{CountAnswer}
use Rattle.words.specs.Answers.{written}
use Rattle.text.specs.Text.{Text}
use Rattle.pages.specs.declared.Slip.{Slip}
use Rattle.pages.specs.Page.{blank}
use Rattle.pages.specs.Mode.{waiting_in}
use Rattle.pages.specs.Sound.{sound_with, page_checks_in}
use Rattle.std.specs.declared.result.Result.{Result}
use Rattle.std.specs.declared.result.Result.TheVariants.{Ok, Err}
use Rattle.words.specs.Answers.{number_of}
use Rattle.sessiontext.specs.declared.Unloaded.{Unloaded}
use Rattle.sessiontext.specs.SessionText.{Form, plain_form, session_text_by}
use Rattle.sessiontext.specs.Reading.{fault_by, slip_by, lines_by}
pub mod Laws

pub record Loaded : Type 0 where
  pub refused : ℕ
  pub line : ℕ
  pub slip : Slip

abbrev pub loaded : ℕ → ℕ → Slip → Loaded
loaded k line slip = record { refused = k; line = line; slip = slip }

abbrev pub loaded_told : Result Slip Unloaded → Loaded
loaded_told (Ok slip) = loaded 0 0 slip
loaded_told (Err e) = loaded (number_of e.refusal) e.line e.slip

module _ (f : Form) where
  unfoldable pub save_by : ℕ → Slip → f.mode.Lent → Text → CountAnswer × Text
  save_by limit slip x out =
      written (page_checks_in f.mode limit slip x) no-17 (session_text_by f slip (waiting_in f.mode slip x)) out

  abbrev pub load_checks_by : ℕ → Text → f.mode.Lent → List Check
  load_checks_by limit text x =
      f.mode.lent_checks x
      ++ no-16 (fault_by f limit text) ∷ no-10 (lines_by f text) (f.mode.page x)
      ∷ no-7 (sound_with f.mode limit (slip_by f text) (lines_by f text)) ∷ []

  unfoldable pub load_by : ℕ → Text → f.mode.Lent → Loaded × f.mode.Lent
  load_by limit text x =
      refused_or (first_of (load_checks_by limit text x))
      (λ k. (loaded k (cond (k =? 16) (fault_by f limit text) 0) blank, x))
      (loaded 0 0 (slip_by f text), f.mode.put (lines_by f text) x)

-- ---- by the plain form
abbrev pub save_into : ℕ → Slip → List ℕ → Text → CountAnswer × Text
save_into limit slip page out = save_by plain_form limit slip page out

abbrev pub load_checks : ℕ → Text → List ℕ → List Check
load_checks limit text page = load_checks_by plain_form limit text page

abbrev pub load_into : ℕ → Text → List ℕ → Loaded × List ℕ
load_into limit text page = load_by plain_form limit text page

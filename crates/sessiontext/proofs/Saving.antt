-- From the tests of a save to what it is promised to answer and to leave, by any form that is faithful.
use Rattle.std.specs.Prelude.{◌∷◌, ◌++◌}
use mathlib.Core.Path.{◌≡◌, refl, sym, ◌∙◌, ap}
use Prim.Native.Nat.{◌≤◌, ◌<◌}
use native.Mathlib.Omega.{arith}
use borrow.Author.Tests.{lt-ltb, le-ltb}
use Rattle.theory.specs.Basics.{List, [], length, ℕ}
use Rattle.theory.specs.Limits.{degree_limit}
use Rattle.theory.specs.Refusals.{Check, first_of, no-17}
use Rattle.theory.proofs.Refusals.Laws.{first-refuses, first_passes, or-refused}
use Rattle.words.specs.Answers.{CountAnswer}
use Rattle.words.specs.Answers.{Outcome, count_answer}
use Rattle.text.specs.Text.{Text}
use Rattle.text.specs.Wrote.{most, Wrote}
use Rattle.text.specs.Wrote.Laws.{wrote-end, wrote-first}
use Rattle.pages.specs.declared.Slip.{Slip}
use Rattle.pages.specs.Mode.{waiting_in}
use Rattle.pages.specs.Sound.{page_checks_in}
use Rattle.pages.specs.Lawful.Checks.{numbered-page}
use Rattle.sessiontext.specs.SessionText.{Form, session_text_by}
use Rattle.sessiontext.specs.SessionText.Faithful.{Faithful}
use Rattle.sessiontext.specs.Calls.{save_by}

module _ {f : Form} (fa : Faithful f) (slip : Slip) (x : f.mode.Lent) (out : Text) where
  abbrev text : Text
  text = session_text_by f slip (waiting_in f.mode slip x)

  abbrev page : List Check
  page = page_checks_in f.mode degree_limit slip x

  abbrev checks : List Check
  checks = no-17 text out ∷ []

  abbrev Saved : CountAnswer → Text → Type 0
  Saved r after = Outcome (save_by f degree_limit slip x out) r after

  refused : (k : ℕ) → first_of (page ++ checks) ≡ k → (k ≡ 0 → ⊥) → Saved (count_answer k 0) out
  unfolding save_by
  refused k e some =
      rw (e, or-refused {A = CountAnswer × Text} (λ k. (count_answer k 0, out)) _ k some)
      (record { answers = refl; leaves = refl })

  pub page-refuses : (k : ℕ) → k ≡ first_of page → (k ≡ 0 → ⊥) → Saved (count_answer k 0) out
  page-refuses k e some = refused k (first-refuses page checks (λ z. some (e ∙ z)) ∙ sym e) some

  module _ (none : first_of page ≡ 0) where
    page-passes : first_of (page ++ checks) ≡ first_of checks
    page-passes = first_passes page checks (numbered-page fa.law degree_limit slip x) none

    pub room-refuses : length out < length text → Saved (count_answer 17 0) out
    room-refuses h = refused 17 (page-passes ∙ rw (lt-ltb (length out) (length text) h)) (λ z. omega arith)

    pub saves : length text ≤ length out → length out ≤ most → {end : ℕ} {after : Text} → Wrote text 0 out end after
        → Saved (count_answer 0 end) after
    unfolding save_by
    saves h m w =
        let pass : first_of (page ++ checks) ≡ 0 = page-passes ∙ rw (le-ltb (length out) (length text) h) in
        rw pass (record { answers = ap (count_answer 0) (wrote-end w m h); leaves = wrote-first w m h })

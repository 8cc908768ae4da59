-- A text that was saved in a run puts the run back at that save, if it is loaded later on in it: it is the text of that
-- slip and what was lent, so that this is what the load gives, and the steps that it gives are those that counted then.
use Rattle.std.specs.Prelude.{◌≡◌, ◌+ℤ◌}
use Rattle.std.proofs.Math.Path.{sym, ap}
use Rattle.std.proofs.Common.{◌∙◌}
use mathlib.Core.List.{cons-ne-nil}
use Rattle.std.proofs.Math.IntN.{+ℤ_idl}
use Rattle.theory.specs.Basics.{List, get_or, take, ℕ, pos, nat_abs}
use Rattle.theory.proofs.Basics.Laws.{same_self}
use Rattle.theory.specs.Limits.{degree_limit}
use Rattle.theory.specs.Refusals.{first_of}
use Rattle.words.specs.Answers.{CountAnswer}
use Rattle.words.specs.Answers.{Outcome}
use Rattle.text.specs.Text.{Text}
use Rattle.pages.specs.declared.Slip.{Slip}
use Rattle.pages.specs.Line.{Line}
use Rattle.pages.specs.Mode.{Mode, waiting_in}
use Rattle.sessiontext.specs.Calls.{Loaded}
use Rattle.sessiontext.specs.SessionText.{Form}
use Rattle.sessiontext.specs.SessionText.Faithful.{Faithful}
use Rattle.sessiontext.specs.Calls.{loaded as loaded_as, save_by, load_by}
use Rattle.sessionruns.specs.Run.{Call, saved, loaded, counts_at, Standing, after, Run}
use Rattle.sessionruns.specs.Run.Parts.{Known, run-knows}
use Rattle.sessionruns.specs.Run.Leads.{Leads}
use Rattle.sessionruns.specs.Run.Kept.{Stored, Stands}
use Rattle.sessionruns.specs.Run.Back.{PutBack}
use Rattle.sessionruns.proofs.Run.Kept.{save-stored, stored-loads, call-stands, run-stands}

-- the slip tells the count
pub steps-counted : {m : Mode} {s t : Slip} {x y : m.Lent} {k : ℕ} → s.steps ≡ pos 0
    → Leads m degree_limit s x k t y → t.steps ≡ pos k
steps-counted {k = k} unstepped l = l.counted ∙ ap (λ z. z +ℤ pos k) unstepped ∙ +ℤ_idl (pos k)

-- a run from slip s and x that saves at `then` and goes on to `now`
module _ {f : Form} (fa : Faithful f) (s : Slip) (x : f.mode.Lent) (lent : first_of (f.mode.lent_checks x) ≡ 0)
    (unstepped : s.steps ≡ pos 0) (laid : x ≡ f.mode.put (waiting_in f.mode s x) x)
    (then : Standing f.mode.Lent)
    (w : Stands fa s x then) (out left : Text) (a : CountAnswer)
    (saving : Outcome (save_by f degree_limit then.slip then.lent out) a left) (none : a.refused ≡ 0)
    (later : List (Call f.mode.Lent)) (now : Standing f.mode.Lent)
    (run : Run f degree_limit (after then (saved out a left)) later now) where
  abbrev text : Text
  text = take a.count left

  at-now : Stands fa s x now
  at-now =
      run-stands fa s x lent (after then (saved out a left)) later now run
      (call-stands fa s x lent then (saved out a left) saving tt w)

  known : Known text now.saves
  known =
      run-knows text f degree_limit (after then (saved out a left)) later now run
      (rw (none, same_self text) (cons-ne-nil _ _))

  -- what a load gives at `now`
  gives : load_by f degree_limit text now.lent ≡ (loaded_as 0 0 then.slip, then.lent)
  unfolding save-stored
  gives =
      let lines : List Line = waiting_in f.mode then.slip then.lent in
      let stored : Stored fa s x (text, then.counted) = save-stored fa s x w.leads out saving none in
      let long = w.leads.same_length ∙ sym at-now.leads.same_length in
      let passes = at-now.leads.still-lent lent in
      stored-loads fa s x stored now.lent passes at-now.leads.same_length
      ∙ ap (λ (y : f.mode.Lent). (loaded_as 0 0 then.slip, y))
      (sym
      (w.leads.laid laid
      ∙ fa.law.put-alike lines then.lent now.lent (w.leads.still-lent lent) passes long))

  pub put_back : (b : Loaded) (y : f.mode.Lent) → Outcome (load_by f degree_limit text now.lent) b y
      → PutBack then now text b y
  put_back b y o =
      let answer : b ≡ loaded_as 0 0 then.slip = o.answers ∙ ap (λ (r : Loaded × f.mode.Lent). r.0) gives in
      let left_so : y ≡ then.lent = o.leaves ∙ ap (λ (r : Loaded × f.mode.Lent). r.1) gives in
      let stands = call-stands fa s x lent now (loaded text b y) o (λ _. known) at-now in
      let count : get_or (counts_at text now.saves) 0 0 ≡ then.counted =
      ap nat_abs
      (sym (steps-counted unstepped (rw answer at stands.leads)) ∙ steps-counted unstepped w.leads) in
      record {
        accepted = ap (λ (r : Loaded). r.refused) answer;
        belongs = λ _. known;
        back = rw (answer, left_so, count);
      }

-- A session taken up again, next morning or in another's place: wherever its text is loaded, and whatever is called then.
--   foreign-run   a run on what a load of any accepted text gives keeps its worth
use Rattle.std.specs.Prelude.{◌≡◌, ◌<◌, ◌+ℤ◌}
use Rattle.std.proofs.Common.{sym, ◌∙◌, ap, arith}
use Rattle.theory.specs.Basics.{List, take, ℕ, pos}
use Rattle.theory.specs.Digits.{width}
use Rattle.theory.specs.Limits.{degree_limit}
use Rattle.words.specs.Answers.{CountAnswer}
use Rattle.words.specs.Answers.{Outcome}
use Rattle.text.specs.Text.{Text}
use Rattle.pages.specs.declared.Slip.{Slip}
use Rattle.pages.specs.Line.{Line}
use Rattle.pages.specs.Page.{worth}
use Rattle.pages.specs.Mode.{Mode, waiting_in}
use Rattle.sessiontext.specs.Calls.{Loaded}
use Rattle.sessiontext.specs.SessionText.{Form, session_text_by}
use Rattle.sessiontext.specs.SessionText.Faithful.{Faithful}
use Rattle.sessiontext.specs.SessionText.Storable.{sound-storable}
use Rattle.sessiontext.specs.Reading.{slip_by, lines_by}
use Rattle.sessiontext.specs.Reading.Back.{slip-back, lines-back}
use Rattle.sessiontext.specs.Calls.{save_by, load_by}
use Rattle.sessiontext.specs.Calls.Laws.{Taken, saved-text, loaded-text}
use Rattle.sessionruns.specs.Run.{Call, Standing, begun, Run, Session}
use Rattle.sessionruns.specs.Run.Leads.{Leads, stays}
use Rattle.sessionruns.specs.Run.Demand3.{Demand3}
use Rattle.sessionruns.specs.Run.Resumed.{Resumed}
use Rattle.sessionruns.proofs.Run.Kept.{run-stands}
use Rattle.sessionruns.proofs.Run.Demand3.{demand-3}

small : degree_limit < width
small = omega arith

-- ---- any text that is accepted
module _ {f : Form} (fa : Faithful f) (text : Text) (other : f.mode.Lent) (b : Loaded) (y : f.mode.Lent)
    (loading : Outcome (load_by f degree_limit text other) b y) (accepted : b.refused ≡ 0) where
  took : Taken f text other b.slip y
  took =
      let number = ap (λ (r : Loaded). r.refused) loading.answers in
      rw (loading.answers, loading.leaves) (loaded-text fa text other (sym number ∙ accepted))

  pub foreign-run : (calls : List (Call f.mode.Lent)) (end : Standing f.mode.Lent)
      → Run f degree_limit (begun b.slip y) calls end
      → Leads f.mode degree_limit b.slip y end.counted end.slip end.lent
  foreign-run calls end run =
      (run-stands fa b.slip y took.passes (begun b.slip y) calls end run
      (record { leads = stays took.fair; stored = tt })
      ).leads

-- ---- a text that was saved in a session
module _ {f : Form} (fa : Faithful f) (shape class : ℕ) (x : f.mode.Lent) (before : List (Call f.mode.Lent))
    (then : Standing f.mode.Lent) (session : Session f degree_limit shape class x before then) (out left : Text)
    (a : CountAnswer) (saving : Outcome (save_by f degree_limit then.slip then.lent out) a left)
    (saved : a.refused ≡ 0) (other : f.mode.Lent) (b : Loaded) (y : f.mode.Lent)
    (loading : Outcome (load_by f degree_limit (take a.count left) other) b y) (accepted : b.refused ≡ 0)
    (calls : List (Call f.mode.Lent)) (end : Standing f.mode.Lent)
    (run : Run f degree_limit (begun b.slip y) calls end) where
  abbrev m : Mode
  m = f.mode

  abbrev text : Text
  text = take a.count left

  at-save : Demand3 fa shape class x before then
  at-save = demand-3 fa shape class x before then session

  pub resumed : Resumed fa shape class x before then session out left a saving saved other b y loading accepted calls
      end run
  resumed =
      let refused : (save_by f degree_limit then.slip then.lent out).0.refused ≡ 0 =
      ap (λ (c : CountAnswer). c.refused) (sym saving.answers) ∙ saved in
      let was = saved-text fa then.slip then.lent out refused in
      let its : text ≡ session_text_by f then.slip (waiting_in m then.slip then.lent) =
      rw (saving.answers, saving.leaves) was.text in
      let t = took fa text other b y loading accepted in
      let same = t.same ∙ its in
      let mine = sound-storable fa t.fair t.passes in
      let first = sound-storable fa was.fair was.lent in
      let slip : b.slip ≡ then.slip =
      sym (slip-back fa degree_limit small mine) ∙ ap (slip_by f) same ∙ slip-back fa degree_limit small first in
      let lines : waiting_in m b.slip y ≡ waiting_in m then.slip then.lent =
      sym (lines-back fa degree_limit small mine) ∙ ap (lines_by f) same ∙ lines-back fa degree_limit small first in
      let leads = foreign-run fa text other b y loading accepted calls end run in
      let as-saved : worth b.slip (waiting_in m b.slip y)
      ≡ worth then.slip (waiting_in m then.slip then.lent) =
      ap (λ (ls : List Line). worth b.slip ls) lines
      ∙ ap (λ (u : Slip). worth u (waiting_in m then.slip then.lent)) slip in
      record {
        slip = slip;
        lines = lines;
        conserved = leads.same-worth ∙ as-saved ∙ at-save.conserved;
        counted =
            leads.counted ∙ ap (λ (u : Slip). u.steps +ℤ pos end.counted) slip
            ∙ ap (λ z. z +ℤ pos end.counted) at-save.counted;
      }

-- A session taken up again, next morning or in another's place: wherever its text is loaded, and whatever is called then.
--   Resumed ..    the slip and the lines that the load gave are those of the save; from there on the sum is the
--                 character that was asked for, and steps counts on from the count at the save
use Rattle.std.specs.Prelude.{◌≡◌, ◌+ℤ◌}
use Rattle.theory.specs.Basics.{List, take, ℕ, pos}
use Rattle.theory.specs.Limits.{degree_limit}
use Rattle.theory.specs.ShapeWord.{shape_of}
use Rattle.theory.specs.ClassWord.{class_of}
use Rattle.theory.specs.Character.{◌on◌}
use Rattle.words.specs.Answers.{CountAnswer}
use Rattle.words.specs.Answers.{Outcome}
use Rattle.text.specs.Text.{Text}
use Rattle.pages.specs.Page.{worth}
use Rattle.pages.specs.Mode.{Mode, waiting_in}
use Rattle.sessiontext.specs.Calls.{Loaded}
use Rattle.sessiontext.specs.SessionText.{Form}
use Rattle.sessiontext.specs.SessionText.Faithful.{Faithful}
use Rattle.sessiontext.specs.Calls.{save_by, load_by}
use Rattle.sessionruns.specs.Run.{Call, Standing, begun, Run, Session}

-- ---- a text that was saved in a session
module _ {f : Form} (fa : Faithful f) (shape class : ℕ) (x : f.mode.Lent) (before : List (Call f.mode.Lent))
    (then : Standing f.mode.Lent) (session : Session f degree_limit shape class x before then) (out left : Text)
    (a : CountAnswer) (saving : Outcome (save_by f degree_limit then.slip then.lent out) a left)
    (saved : a.refused ≡ 0) (other : f.mode.Lent) (b : Loaded) (y : f.mode.Lent)
    (loading : Outcome (load_by f degree_limit (take a.count left) other) b y) (accepted : b.refused ≡ 0)
    (calls : List (Call f.mode.Lent)) (end : Standing f.mode.Lent)
    (run : Run f degree_limit (begun b.slip y) calls end) where
  abbrev m : Mode
  m = f.mode

  pub record Resumed : Type 0 where
    pub slip : b.slip ≡ then.slip
    pub lines : waiting_in m b.slip y ≡ waiting_in m then.slip then.lent
    pub conserved : worth end.slip (waiting_in m end.slip end.lent) ≡ shape_of shape on class_of class
    pub counted : end.slip.steps ≡ pos then.counted +ℤ pos end.counted

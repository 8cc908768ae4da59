-- Demand 3 (docs/READING.md has it in words): what is true of every session, whatever was called in it.
--   PutsBack     a text whose save was accepted, anywhere in these calls, and that is loaded at `end`, puts the session
--                back at that save (Back.antt: `PutBack`)
--   Demand3      of a session that opened a shape on a class on x, made these calls and stands at `end`
use Rattle.std.specs.Prelude.{◌≡◌, ◌≤◌, ◌∷◌, ◌++◌}
use Rattle.theory.specs.Basics.{true, List, length, take, ℕ, pos}
use Rattle.theory.specs.Limits.{degree_limit}
use Rattle.theory.specs.Partition.{degree}
use Rattle.theory.specs.ShapeWord.{shape_of}
use Rattle.theory.specs.ClassWord.{class_of}
use Rattle.theory.specs.Character.{◌on◌}
use Rattle.theory.specs.Bounds.{S}
use Rattle.theory.specs.Refusals.{first_of}
use Rattle.words.specs.Answers.{CountAnswer}
use Rattle.words.specs.Answers.{Outcome}
use Rattle.text.specs.Text.{Text}
use Rattle.pages.specs.Sound.{sound_in}
use Rattle.pages.specs.Page.{worth}
use Rattle.pages.specs.Mode.{waiting_in}
use Rattle.sessiontext.specs.Calls.{Loaded}
use Rattle.sessiontext.specs.SessionText.{Form}
use Rattle.sessiontext.specs.SessionText.Faithful.{Faithful}
use Rattle.sessiontext.specs.Calls.{load_by}
use Rattle.sessionruns.specs.Run.{Call, saved, Standing, Session, unwatched}
use Rattle.sessionruns.specs.Run.Back.{PutBack}

module _ {f : Form} (fa : Faithful f) (shape class : ℕ) (x : f.mode.Lent) (calls : List (Call f.mode.Lent))
    (end : Standing f.mode.Lent) where
  abbrev pub PutsBack : Type 0
  PutsBack =
      (before later : List (Call f.mode.Lent)) (then : Standing f.mode.Lent) (out left : Text) (a : CountAnswer)
      → calls ≡ before ++ saved out a left ∷ later → Session f degree_limit shape class x before then → a.refused ≡ 0
      → (b : Loaded) (y : f.mode.Lent) → Outcome (load_by f degree_limit (take a.count left) end.lent) b y
      → PutBack then end (take a.count left) b y

  pub record Demand3 : Type 0 where
    -- settled plus the signed waiting characters is the character that was asked for
    pub conserved : worth end.slip (waiting_in f.mode end.slip end.lent) ≡ shape_of shape on class_of class
    -- once no line waits, it is settled
    pub finished : end.slip.lines ≡ 0 → end.slip.settled ≡ shape_of shape on class_of class
    -- steps counts the accepted commits on the way from the opening to where the session stands, at most S(n)
    pub counted : end.slip.steps ≡ pos end.counted
    pub bounded : end.counted ≤ S (degree (shape_of shape))
    -- with watches and previews struck, every other call answers the same, and the end is the same
    pub watch-free : Session f degree_limit shape class x (unwatched calls) end
    -- slip and what is lent are sound, the page is as long as it was, and so is a column beside it
    pub still-sound : sound_in f.mode degree_limit end.slip end.lent ≡ true
    pub same_length : length (f.mode.page end.lent) ≡ length (f.mode.page x)
    pub still-lent : first_of (f.mode.lent_checks end.lent) ≡ 0
    -- to load a text that was saved in it puts it back at that save, later commits uncounted
    pub put_back : PutsBack

-- What every call of a run keeps: a commit by its own laws, a load since its text is that of a session which kept it.
--   Stored s x save   the text was saved of a slip and of what was lent that s and x led to, with as many steps
--   Stands s x now    s and x led to the slip of `now` and what is lent there, and to those of whatever was saved
use Rattle.std.specs.Prelude.{◌≡◌}
use Rattle.theory.specs.Basics.{ℕ}
use Rattle.theory.specs.Basics.{Each}
use Rattle.theory.specs.Limits.{degree_limit}
use Rattle.theory.specs.Refusals.{first_of}
use Rattle.text.specs.Text.{Text}
use Rattle.pages.specs.declared.Slip.{Slip}
use Rattle.pages.specs.Mode.{Mode, waiting_in}
use Rattle.sessiontext.specs.SessionText.{Form, session_text_by}
use Rattle.sessiontext.specs.SessionText.Faithful.{Faithful}
use Rattle.sessionruns.specs.Run.{Standing}
use Rattle.sessionruns.specs.Run.Leads.{Leads}

module _ {f : Form} (fa : Faithful f) (s : Slip) (x : f.mode.Lent) where
  abbrev m : Mode
  m = f.mode

  pub record Stored (save : Text × ℕ) : Type 0 where
    pub slip : Slip
    pub lent : m.Lent
    pub leads : Leads m degree_limit s x save.1 slip lent
    pub passes : first_of (m.lent_checks lent) ≡ 0
    pub text : save.0 ≡ session_text_by f slip (waiting_in m slip lent)

  pub record Stands (now : Standing m.Lent) : Type 0 where
    pub leads : Leads m degree_limit s x now.counted now.slip now.lent
    pub stored : Each Stored now.saves

-- Demand 3 at every point of a session, not only at its end: a run splits wherever its calls are cut in two
-- (Parts.antt). It stands at one place there only (Requests.antt: `one-session`).
--   Halfway ..   where a session stands between two of its calls: so far it is a session, of which demand 3 is true
use Rattle.theory.specs.Basics.{List, ℕ}
use Rattle.theory.specs.Limits.{degree_limit}
use Rattle.sessiontext.specs.SessionText.{Form}
use Rattle.sessiontext.specs.SessionText.Faithful.{Faithful}
use Rattle.sessionruns.specs.Run.{Call, Standing, Run, Session}
use Rattle.sessionruns.specs.Run.Demand3.{Demand3}

module _ {f : Form} (fa : Faithful f) (shape class : ℕ) (x : f.mode.Lent) (before later : List (Call f.mode.Lent))
    (end : Standing f.mode.Lent) where
  pub record Halfway : Type 0 where
    pub halfway : Standing f.mode.Lent
    pub so_far : Session f degree_limit shape class x before halfway
    pub demand : Demand3 fa shape class x before halfway
    pub goes_on : Run f degree_limit halfway later end

-- Demand 3 at every point of a session, not only at its end (specs/Run/Always.antt).
use Rattle.std.specs.Prelude.{◌++◌}
use Rattle.theory.specs.Basics.{List, ℕ}
use Rattle.theory.specs.Limits.{degree_limit}
use Rattle.sessiontext.specs.SessionText.{Form}
use Rattle.sessiontext.specs.SessionText.Faithful.{Faithful}
use Rattle.sessionruns.specs.Run.{Call, Standing, begun, Session}
use Rattle.sessionruns.specs.Run.Parts.{run-splits}
use Rattle.sessionruns.specs.Run.Always.{Halfway}
use Rattle.sessionruns.proofs.Run.Demand3.{demand-3}

module _ {f : Form} (fa : Faithful f) (shape class : ℕ) (x : f.mode.Lent) (before later : List (Call f.mode.Lent))
    (end : Standing f.mode.Lent) where
  pub demand-3-always : Session f degree_limit shape class x (before ++ later) end
      → Halfway fa shape class x before later end
  demand-3-always s =
      let b = run-splits f degree_limit (begun s.answer.slip s.lent) before later end s.goes_on in
      let so_far : Session f degree_limit shape class x before b.halfway = record {
        answer = s.answer;
        lent = s.lent;
        promised = s.promised;
        accepted = s.accepted;
        goes_on = b.so_far;
      } in
      record {
        halfway = b.halfway;
        so_far = so_far;
        demand = demand-3 fa shape class x before b.halfway so_far;
        goes_on = b.goes_on;
      }

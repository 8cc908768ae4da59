-- Demand 3 in each mode, by its name, and that two sessions of one shape and class agree, one in each mode
-- (specs/Run/Modes.antt).
use Rattle.std.proofs.Common.{sym, ◌∙◌}
use Rattle.theory.specs.Basics.{List, ℕ, ℤ}
use Rattle.theory.specs.Limits.{degree_limit}
use Rattle.pages.specs.Lawful.Gathered.{as_long}
use Rattle.sessiontext.specs.SessionText.{plain_form, gathered_form}
use Rattle.sessiontext.specs.SessionText.Faithful.Plain.{plain-faithful}
use Rattle.sessiontext.specs.SessionText.Faithful.Gathered.{gathered-faithful}
use Rattle.sessionruns.specs.Run.{Call, Standing, Session}
use Rattle.sessionruns.specs.Run.Modes.{PlainDemand3, GatheredDemand3, SessionsAgree}
use Rattle.sessionruns.proofs.Run.Demand3.{demand-3, session-opened}

module _ (shape class : ℕ) (page : List ℕ) (calls : List (Call (List ℕ))) (end : Standing (List ℕ)) where
  pub plain-demand-3 : Session plain_form degree_limit shape class page calls end
      → PlainDemand3 shape class page calls end
  plain-demand-3 = demand-3 plain-faithful shape class page calls end

module _ (shape class : ℕ) (page : List ℕ) (column : List ℤ) (calls : List (Call (List ℕ × List ℤ)))
    (end : Standing (List ℕ × List ℤ)) where
  pub gathered-demand-3 : Session gathered_form degree_limit shape class (page, column) calls end
      → GatheredDemand3 shape class page column calls end
  gathered-demand-3 s =
      let d = demand-3 gathered-faithful shape class (page, column) calls end s in
      let o = session-opened gathered-faithful shape class (page, column) calls end s in
      let now = (as_long end.lent.0 end.lent.1 d.still-lent).1 in
      record {
        demand = d;
        same-column = sym now ∙ d.same_length ∙ (as_long page column o.was-lent).1;
        as-page = now;
      }

-- ---- one session in each mode
module _ (shape class : ℕ) (page : List ℕ) (calls : List (Call (List ℕ))) (end : Standing (List ℕ))
    (lent : List ℕ × List ℤ) (others : List (Call (List ℕ × List ℤ))) (there : Standing (List ℕ × List ℤ)) where
  pub sessions-agree : Session plain_form degree_limit shape class page calls end
      → Session gathered_form degree_limit shape class lent others there
      → SessionsAgree shape class page calls end lent others there
  sessions-agree s t =
      let d = demand-3 plain-faithful shape class page calls end s in
      let g = demand-3 gathered-faithful shape class lent others there t in
      record {
        same-worth = d.conserved ∙ sym g.conserved;
        same-settled = λ none empty. d.finished none ∙ sym (g.finished empty);
      }

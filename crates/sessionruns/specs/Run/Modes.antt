-- Demand 3 in each mode, by its name (document 02, P7): in the plain mode a page is handed on, in the gathered mode a
-- page and its column, which stays as long as the page. And that two sessions of one shape and class agree, one in each
-- mode, whatever was called in either.
--   PlainDemand3, GatheredDemand3   demand 3 of a session in the plain mode, and in the gathered one
--   SessionsAgree                   both are worth the same, and once no line waits in either have settled the same
use Rattle.std.specs.Prelude.{◌≡◌}
use Rattle.theory.specs.Basics.{List, length, ℕ, ℤ}
use Rattle.pages.specs.Page.{worth}
use Rattle.pages.specs.Mode.{waiting_in, plain_mode, gathered_mode}
use Rattle.sessiontext.specs.SessionText.Faithful.Plain.{plain-faithful}
use Rattle.sessiontext.specs.SessionText.Faithful.Gathered.{gathered-faithful}
use Rattle.sessionruns.specs.Run.{Call, Standing}
use Rattle.sessionruns.specs.Run.Demand3.{Demand3}

module _ (shape class : ℕ) (page : List ℕ) (calls : List (Call (List ℕ))) (end : Standing (List ℕ)) where
  abbrev pub PlainDemand3 : Type 0
  PlainDemand3 = Demand3 plain-faithful shape class page calls end

module _ (shape class : ℕ) (page : List ℕ) (column : List ℤ) (calls : List (Call (List ℕ × List ℤ)))
    (end : Standing (List ℕ × List ℤ)) where
  pub record GatheredDemand3 : Type 0 where
    pub demand : Demand3 gathered-faithful shape class (page, column) calls end
    -- the column is as long as it was, and as long as the page
    pub same-column : length end.lent.1 ≡ length column
    pub as-page : length end.lent.0 ≡ length end.lent.1

-- ---- one session in each mode
module _ (shape class : ℕ) (page : List ℕ) (calls : List (Call (List ℕ))) (end : Standing (List ℕ))
    (lent : List ℕ × List ℤ) (others : List (Call (List ℕ × List ℤ))) (there : Standing (List ℕ × List ℤ)) where
  pub record SessionsAgree : Type 0 where
    pub same-worth : worth end.slip (waiting_in plain_mode end.slip end.lent)
        ≡ worth there.slip (waiting_in gathered_mode there.slip there.lent)
    pub same-settled : end.slip.lines ≡ 0 → there.slip.lines ≡ 0 → end.slip.settled ≡ there.slip.settled

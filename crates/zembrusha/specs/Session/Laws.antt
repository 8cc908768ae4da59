-- A session through the exports is a session of the calculator, and so demand 3 is true of it, by any faithful form.
--   Calculated ..   the session of the calculator's calls that are the same, and demand 3 of it
use Rattle.std.specs.Prelude.{◌≡◌, refl, ◌∷◌}
use Rattle.std.proofs.Common.{ap}
use Rattle.theory.specs.Basics.{List, [], ℕ, zero, suc, ℤ}
use Rattle.theory.specs.Refusals.{first_of, refused_or}
use Rattle.theory.specs.Limits.{degree_limit}
use Rattle.words.specs.Answers.{Outcome}
use Rattle.sessions.specs.Opening as calculator-handed
use Rattle.pages.specs.declared.Slip as calculator-slip
use Rattle.pages.specs.Mode.{Mode, waiting_in}
use Rattle.characters.specs.Watch.{Value, whole, quotient, none, reads, shown_in, watch_checks_in, watch_in}
use Rattle.characters.specs.Watch.Answers.{said}
use Rattle.sessiontext.specs.SessionText.{Form, plain_form, gathered_form}
use Rattle.sessiontext.specs.SessionText.Faithful.{Faithful}
use Rattle.sessiontext.specs.SessionText.Faithful.Plain.{plain-faithful}
use Rattle.sessiontext.specs.SessionText.Faithful.Gathered.{gathered-faithful}
use Rattle.sessionruns.specs.Run as calculator
use Rattle.sessionruns.specs.Run.{Standing, after}
use Rattle.sessionruns.specs.Run.Demand3.{Demand3}
use Rattle.sessionruns.proofs.Run.Demand3.{demand-3}
use Rattle.sessionruns.specs.Run.Modes.{GatheredDemand3}
use Rattle.sessionruns.proofs.Run.Modes.{gathered-demand-3}
use Rattle.zembrusha.specs.declared.Handed.{Handed}
use Rattle.zembrusha.specs.Exports.{handed_run}
use Rattle.zembrusha.specs.Session.{Call, opened, previewed, committed, watched-whole, watched-ratio}
use Rattle.zembrusha.specs.Session.{watched-refusal, saved, loaded, taken, taken_count, taken_load, Promised}
use Rattle.zembrusha.specs.Session.{theirs, their_next, Run, all_theirs, Session, first}

-- ---- a call
-- there is an answer that reads what a watch gives
said-watch : (m : Mode) (limit : ℕ) (s : calculator-slip.Slip) (x : m.Lent) (kind line : ℕ)
    → reads (said (watch_in m limit s x kind line)) ≡ watch_in m limit s x kind line
unfolding watch_in
said-watch m limit s x kind line =
    go (first_of (watch_checks_in m limit s x kind line)) (shown_in m s (waiting_in m s x) line kind)
  where
    go : (k : ℕ) (v : Value)
        → reads (said (refused_or k (λ j. (j, none)) (0, v))) ≡ refused_or {A = ℕ × Value} k (λ j. (j, none)) (0, v)
    go zero (whole z) = refl
    go zero (quotient x) = refl
    go zero none = refl
    go (suc k) v = refl

taken-outcome : {L : Type 0} {x : calculator-handed.Handed × L} {a : Handed} {y : L} → Outcome (handed_run x) a y
    → Outcome x (taken a) y
taken-outcome o = record { answers = ap taken o.answers; leaves = o.leaves }

module _ (f : Form) where
  call-calculated : (s : calculator-slip.Slip) (x : f.mode.Lent) (call : Call f.mode.Lent) → Promised f s x call
      → calculator.Promised f degree_limit s x (theirs f s x call)
  call-calculated s x (opened shape class a y) o = taken-outcome o
  call-calculated s x (previewed line cycle strip a left) o =
      record { answers = ap taken_count o.answers; leaves = o.leaves }
  call-calculated s x (committed line cycle strip a y) o = taken-outcome o
  call-calculated s x (watched-whole kind line z) o = said-watch f.mode degree_limit s x kind line
  call-calculated s x (watched-ratio kind line q) o = said-watch f.mode degree_limit s x kind line
  call-calculated s x (watched-refusal kind line k) o = said-watch f.mode degree_limit s x kind line
  call-calculated s x (saved out a left) o = record { answers = ap taken_count o.answers; leaves = o.leaves }
  call-calculated s x (loaded text a y) o = record { answers = ap taken_load o.answers; leaves = o.leaves }

  -- ---- calls one after the other
  run-calculated : (now : Standing f.mode.Lent) (calls : List (Call f.mode.Lent))
      (end : Standing f.mode.Lent) → Run f now calls end
      → calculator.Run f degree_limit now (all_theirs f now calls) end
  unfolding Run all_theirs calculator.Run
  run-calculated now [] end r = r
  run-calculated now (call ∷ calls) end r = (
    call-calculated now.slip now.lent call r.0,
    r.1,
    run-calculated (after now (their_next f now call)) calls end r.2,
  )

module _ {f : Form} (fa : Faithful f) {shape class : ℕ} {x : f.mode.Lent} {calls : List (Call f.mode.Lent)}
    {end : Standing f.mode.Lent} (s : Session f shape class x calls end) where
  pub record Calculated : Type 0 where
    pub session : calculator.Session f degree_limit shape class x (all_theirs f (first f s) calls) end
    pub demand : Demand3 fa shape class x (all_theirs f (first f s) calls) end

  pub session-calculated : Calculated
  session-calculated =
      let session : calculator.Session f degree_limit shape class x (all_theirs f (first f s) calls) end = record {
        answer = taken s.answer;
        lent = s.lent;
        promised = taken-outcome s.promised;
        accepted = s.accepted;
        goes_on = run-calculated f (first f s) calls end s.goes_on;
      } in
      record { session = session; demand = demand-3 fa shape class x (all_theirs f (first f s) calls) end session }

-- ---- in each mode
pub plain-session : {shape class : ℕ} {page : List ℕ} {calls : List (Call (List ℕ))} {end : Standing (List ℕ)}
    (s : Session plain_form shape class page calls end) → Calculated plain-faithful s
plain-session = session-calculated plain-faithful

module _ {shape class : ℕ} {page : List ℕ} {column : List ℤ} {calls : List (Call (List ℕ × List ℤ))}
    {end : Standing (List ℕ × List ℤ)} (s : Session gathered_form shape class (page, column) calls end) where
  pub gathered-session : Calculated gathered-faithful s
      × GatheredDemand3 shape class page column (all_theirs gathered_form (first gathered_form s) calls) end
  gathered-session =
      let c = session-calculated gathered-faithful s in (
        c,
        gathered-demand-3 shape class page column (all_theirs gathered_form (first gathered_form s) calls) end
            c.session,
      )

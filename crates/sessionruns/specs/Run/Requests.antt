-- A run's answers are determined by its requests (document 01, "no second outcome"), a commit's strip being part of what
-- it asks: so to strike watches and previews alters no other answer, whichever way one looks at it.
--   Request            a call without its answer; request call, what a call asked; requests calls, what all asked
--   answered s x r     the call that asks r of slip s and what is lent, x, with the answer that is promised
--   answers now rs     the calls that ask rs, one after the other
use Rattle.std.specs.Prelude.{◌≡◌, ◌∷◌}
use Rattle.std.proofs.Math.Path.{refl, ap, ap₂}
use Rattle.std.proofs.Common.{sym, ◌∙◌}
use Rattle.theory.specs.Basics.{List, [], map, ℕ}
use Rattle.text.specs.Text.{Text}
use Rattle.pages.specs.declared.Slip.{Slip}
use Rattle.sessions.specs.Opening.{opening_in}
use Rattle.sessions.specs.Step.{preview_in, commit_in}
use Rattle.characters.specs.Watch.{watch_in}
use Rattle.characters.specs.Watch.Answers.{said, said-reads}
use Rattle.sessiontext.specs.SessionText.{Form}
use Rattle.sessiontext.specs.Calls.{save_by, load_by}
use Rattle.sessionruns.specs.Run.{Call, opened, previewed, committed, watched, saved, loaded, Standing, Promised}
use Rattle.sessionruns.specs.Run.{after, begun, Run, Session, unwatched}
use Rattle.sessionruns.specs.Run.Parts.{one_end, one-begun, session-unwatched}

pub data Request : Type 0 where
  to-open : (shape class : ℕ) → Request
  to-preview : (line cycle : ℕ) (strip : List ℕ) → Request
  to-commit : (line cycle : ℕ) (strip : List ℕ) → Request
  to-watch : (kind line : ℕ) → Request
  to-save : (out : Text) → Request
  to-load : (text : Text) → Request

abbrev pub request : {L : Type 0} → Call L → Request
request (opened shape class a y) = to-open shape class
request (previewed line cycle strip a left) = to-preview line cycle strip
request (committed line cycle strip a y) = to-commit line cycle strip
request (watched kind line a) = to-watch kind line
request (saved out a left) = to-save out
request (loaded text a y) = to-load text

abbrev pub requests : {L : Type 0} → List (Call L) → List Request
requests calls = map request calls

-- ---- the one answer
module _ (f : Form) (limit : ℕ) where
  abbrev L : Type 0
  L = f.mode.Lent

  abbrev answered : Slip → L → Request → Call L
  answered s x (to-open shape class) =
      opened shape class (opening_in f.mode limit shape class x).0 (opening_in f.mode limit shape class x).1
  answered s x (to-preview line cycle strip) =
      previewed line cycle strip (preview_in f.mode limit s x line cycle strip).0
      (preview_in f.mode limit s x line cycle strip).1
  answered s x (to-commit line cycle strip) =
      committed line cycle strip (commit_in f.mode limit s x line cycle strip).0
      (commit_in f.mode limit s x line cycle strip).1
  answered s x (to-watch kind line) = watched kind line (said (watch_in f.mode limit s x kind line))
  answered s x (to-save out) = saved out (save_by f limit s x out).0 (save_by f limit s x out).1
  answered s x (to-load text) = loaded text (load_by f limit text x).0 (load_by f limit text x).1

  as-promised : (s : Slip) (x : L) (call : Call L) → Promised f limit s x call → call ≡ answered s x (request call)
  as-promised s x (opened shape class a y) o = rw (o.answers, o.leaves)
  as-promised s x (previewed line cycle strip a left) o = rw (o.answers, o.leaves)
  as-promised s x (committed line cycle strip a y) o = rw (o.answers, o.leaves)
  as-promised s x (watched kind line a) o = ap (watched kind line) (sym (said-reads a) ∙ ap said o)
  as-promised s x (saved out a left) o = rw (o.answers, o.leaves)
  as-promised s x (loaded text a y) o = rw (o.answers, o.leaves)

  abbrev next : Standing L → Request → Call L
  next now r = answered now.slip now.lent r

  answers : Standing L → List Request → List (Call L)
  answers now [] = []
  answers now (r ∷ rs) = next now r ∷ answers (after now (next now r)) rs

  run-answered : (now : Standing L) (calls : List (Call L)) (end : Standing L) → Run f limit now calls end
      → calls ≡ answers now (requests calls)
  unfolding Run answers
  run-answered now [] end r = refl
  run-answered now (call ∷ calls) end r =
      let e = as-promised now.slip now.lent call r.0 in
      ap₂ (λ (c : Call L) (cs : List (Call L)). c ∷ cs) e
      (run-answered (after now call) calls end r.2 ∙ ap (λ (c : Call L). answers (after now c) (requests calls)) e)

-- ---- sessions
-- two sessions from one opening that ask the same are answered the same and end alike
pub one-session : {f : Form} {limit shape class : ℕ} {x : f.mode.Lent} {calls others : List (Call f.mode.Lent)}
    {end other : Standing f.mode.Lent}
    → Session f limit shape class x calls end → Session f limit shape class x others other
    → requests calls ≡ requests others → (calls ≡ others) × (end ≡ other)
one-session {f} {limit} {calls = calls} {others = others} {end = end} {other = other} a b asked =
    let first : Standing f.mode.Lent = begun a.answer.slip a.lent in
    let r : Run f limit first others other = rw (one-begun f limit a b) b.goes_on in
    let same : calls ≡ others =
    run-answered f limit first calls end a.goes_on ∙ ap (answers f limit first) asked
    ∙ sym (run-answered f limit first others other r) in
    (same, one_end f limit first others (rw same at a.goes_on) r)

-- if one asks what the other does but for watches and previews, every other call is answered the same, and they end alike
pub one-session-unwatched : {f : Form} {limit shape class : ℕ} {x : f.mode.Lent}
    {calls others : List (Call f.mode.Lent)} {end other : Standing f.mode.Lent}
    → Session f limit shape class x calls end → Session f limit shape class x others other
    → requests (unwatched calls) ≡ requests others → (unwatched calls ≡ others) × (end ≡ other)
one-session-unwatched {f} {limit} a b asked = one-session (session-unwatched f limit a) b asked

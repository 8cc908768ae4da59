-- A run part by part: it splits wherever its calls are cut in two, its calls lead to one end only, its watches can be
-- struck, and what was saved stays saved.
--   Between now before later end   where the run stands between the calls: `before` leads there, and `later` to `end`
--   Known text saves               the text was saved
use Rattle.std.specs.Prelude.{◌≡◌, refl, ◌∷◌, ◌++◌}
use Rattle.std.proofs.Math.Path.{sym}
use Rattle.std.proofs.Common.{◌∙◌}
use mathlib.Core.List.{cons-ne-nil}
use Rattle.theory.specs.Basics.{true, false, not, cond, List, [], map, take, ℕ, ◌=?◌, keep, same}
use Rattle.words.specs.Answers.Laws.{one-outcome}
use Rattle.text.specs.Text.{Text}
use Rattle.sessions.specs.Opening.{opening_in}
use Rattle.sessiontext.specs.SessionText.{Form}
use Rattle.sessionruns.specs.Run.{Call, opened, previewed, committed, watched, saved, loaded, Saves, counts_at}
use Rattle.sessionruns.specs.Run.{Standing, after, begun, Run, Session, is_watch, unwatched}

module _ (f : Form) (limit : ℕ) where
  abbrev L : Type 0
  L = f.mode.Lent

  pub record Between (now : Standing L) (before later : List (Call L)) (end : Standing L) : Type 0 where
    pub halfway : Standing L
    pub so_far : Run f limit now before halfway
    pub goes_on : Run f limit halfway later end

  pub run-splits : (now : Standing L) (before later : List (Call L)) (end : Standing L)
      → Run f limit now (before ++ later) end
      → Between now before later end
  unfolding Run
  run-splits now [] later end r = record { halfway = now; so_far = refl; goes_on = r }
  run-splits now (call ∷ before) later end r =
      let b = run-splits (after now call) before later end r.2 in
      record { halfway = b.halfway; so_far = (r.0, r.1, b.so_far); goes_on = b.goes_on }

  -- ---- one end
  pub one_end : (now : Standing L) (calls : List (Call L)) {end other : Standing L} → Run f limit now calls end
      → Run f limit now calls other → end ≡ other
  unfolding Run
  one_end now [] r q = r ∙ sym q
  one_end now (call ∷ calls) r q = one_end (after now call) calls r.2 q.2

  pub one-begun : {shape class : ℕ} {x : L} {calls others : List (Call L)} {end other : Standing L}
      (a : Session f limit shape class x calls end) (b : Session f limit shape class x others other)
      → begun a.answer.slip a.lent ≡ begun b.answer.slip b.lent
  one-begun {shape} {class} {x} a b =
      let same = one-outcome (opening_in f.mode limit shape class x) a.promised b.promised in
      rw (same.0, same.1) refl

  -- ---- watches struck
  struck : (now : Standing L) (call : Call L) (calls : List (Call L)) (end : Standing L)
      → Run f limit now (call ∷ calls) end
      → Run f limit now (cond (not (is_watch call)) (call ∷ calls) calls) end
  unfolding Run
  struck now (opened shape class a y) calls end r = r
  struck now (previewed line cycle strip a left) calls end r = r.2
  struck now (committed line cycle strip a y) calls end r = r
  struck now (watched kind line a) calls end r = r.2
  struck now (saved out a left) calls end r = r
  struck now (loaded text a y) calls end r = r

  run-unwatched : (now : Standing L) (calls : List (Call L)) (end : Standing L) → Run f limit now calls end
      → Run f limit now (unwatched calls) end
  unfolding Run
  run-unwatched now [] end r = r
  run-unwatched now (call ∷ calls) end r =
      struck now call (unwatched calls) end (r.0, r.1, run-unwatched (after now call) calls end r.2)

  pub session-unwatched : {shape class : ℕ} {x : L} {calls : List (Call L)} {end : Standing L}
      → Session f limit shape class x calls end → Session f limit shape class x (unwatched calls) end
  session-unwatched {calls = calls} {end = end} s = record {
    answer = s.answer;
    lent = s.lent;
    promised = s.promised;
    accepted = s.accepted;
    goes_on = run-unwatched (begun s.answer.slip s.lent) calls end s.goes_on;
  }

-- ---- what was saved stays saved
module _ (text : Text) where
  abbrev pub Known : Saves → Type 0
  Known saves = counts_at text saves ≡ [] → ⊥

  one_more : (save : Text × ℕ) (saves : Saves) → Known saves → Known (save ∷ saves)
  one_more save saves k =
      let others : Saves = keep (λ x. same text x.0) saves in
      elim (same text save.0) as (λ b. map (λ (x : Text × ℕ). x.1) (cond b (save ∷ others) others) ≡ [] → ⊥)
      [ true ↦ cons-ne-nil _ _ | false ↦ k ]

  call-knows : {L : Type 0} (now : Standing L) (call : Call L) → Known now.saves → Known (after now call).saves
  call-knows now (opened shape class a y) k = k
  call-knows now (previewed line cycle strip a left) k = k
  call-knows now (committed line cycle strip a y) k = k
  call-knows now (watched kind line a) k = k
  call-knows now (saved out a left) k =
      let save : Text × ℕ = (take a.count left, now.counted) in
      elim (a.refused =? 0) as (λ b. Known (cond b (save ∷ now.saves) now.saves))
      [ true ↦ one_more save now.saves k | false ↦ k ]
  call-knows now (loaded other a y) k = k

  pub run-knows : (f : Form) (limit : ℕ) (now : Standing f.mode.Lent) (calls : List (Call f.mode.Lent))
      (end : Standing f.mode.Lent) → Run f limit now calls end
      → Known now.saves → Known end.saves
  unfolding Run
  run-knows f limit now [] end r k = rw r k
  run-knows f limit now (call ∷ calls) end r k =
      run-knows f limit (after now call) calls end r.2 (call-knows now call k)

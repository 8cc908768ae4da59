-- Where no load is accepted, the steps that count are the accepted commits of the calls.
use Rattle.std.specs.Prelude.{◌≡◌, refl, ◌∷◌, ◌+◌}
use Rattle.std.proofs.Common.{arith}
use Rattle.std.proofs.lemmas.Bool.{not-true}
use Rattle.theory.specs.Basics.{Bool, true, false, not, cond, List, [], length, ℕ, ◌=?◌, keep, count, every}
use Rattle.theory.proofs.Basics.Laws.{both}
use Rattle.sessiontext.specs.SessionText.{Form}
use Rattle.sessionruns.specs.Run.{Call, opened, previewed, committed, watched, saved, loaded}
use Rattle.sessionruns.specs.Run.{Standing, after, Run}
use Rattle.sessionruns.specs.Run.Counted.{is_step, is_load, accepted_steps, Unloaded}

-- one call more
counts-more : {L : Type 0} (calls : List (Call L)) (call : Call L)
    → count is_step (call ∷ calls) ≡ cond (is_step call) 1 0 + count is_step calls
counts-more calls call = go (is_step call)
  where
    go : (b : Bool) → length (cond b (call ∷ keep is_step calls) (keep is_step calls)) ≡ cond b 1 0 + count is_step calls
    go true = omega arith
    go false = omega arith

-- a call that is no accepted load counts itself, if it is an accepted commit
counts : {L : Type 0} (now : Standing L) (call : Call L) → not (is_load call) ≡ true
    → (after now call).counted ≡ now.counted + cond (is_step call) 1 0
counts now (opened shape class a y) e = omega arith
counts now (previewed line cycle strip a left) e = omega arith
counts now (committed line cycle strip a y) e = refl
counts now (watched kind line a) e = omega arith
counts now (saved out a left) e = omega arith
counts now (loaded text a y) e = rw (not-true (a.refused =? 0) e) (omega arith)

pub steps-are-counted : (f : Form) (limit : ℕ) (now : Standing f.mode.Lent) (calls : List (Call f.mode.Lent))
    (end : Standing f.mode.Lent) → Run f limit now calls end
    → Unloaded calls → end.counted ≡ now.counted + accepted_steps calls
unfolding Run
steps-are-counted f limit now [] end r u = rw r (omega arith)
steps-are-counted f limit now (call ∷ calls) end r u =
    let each = both (not (is_load call)) (every (λ call. not (is_load call)) calls) u in
    omega (
      arith,
      steps-are-counted f limit (after now call) calls end r.2 each.1,
      counts now call each.0,
      counts-more calls call,
    )

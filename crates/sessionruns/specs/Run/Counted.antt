-- Where no load is accepted, the steps that count are the accepted commits of the calls.
--   is_step call           it is an accepted commit; is_load call, an accepted load
--   accepted_steps calls   how many of the calls are accepted commits
--   Unloaded calls        none of them is an accepted load
use Rattle.std.specs.Prelude.{◌≡◌}
use Rattle.theory.specs.Basics.{Bool, true, false, not, List, ℕ, ◌=?◌, count, every}
use Rattle.sessionruns.specs.Run.{Call, opened, previewed, committed, watched, saved, loaded}

abbrev pub is_step : {L : Type 0} → Call L → Bool
is_step (opened shape class a y) = false
is_step (previewed line cycle strip a left) = false
is_step (committed line cycle strip a y) = a.refused =? 0
is_step (watched kind line a) = false
is_step (saved out a left) = false
is_step (loaded text a y) = false

abbrev pub is_load : {L : Type 0} → Call L → Bool
is_load (opened shape class a y) = false
is_load (previewed line cycle strip a left) = false
is_load (committed line cycle strip a y) = false
is_load (watched kind line a) = false
is_load (saved out a left) = false
is_load (loaded text a y) = a.refused =? 0

abbrev pub accepted_steps : {L : Type 0} → List (Call L) → ℕ
accepted_steps calls = count is_step calls

abbrev pub Unloaded : {L : Type 0} → List (Call L) → Type 0
Unloaded calls = every (λ call. not (is_load call)) calls ≡ true

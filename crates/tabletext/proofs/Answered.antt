-- The text of an answer has room in the lent bytes, and once it is written at their front the promise is kept.
use mathlib.Core.Path.{◌≡◌, ap}
use Prim.Native.Nat.{◌≤◌}
use native.Mathlib.Omega.{arith}
use Rattle.theory.specs.Basics.{ℕ, length}
use Rattle.theory.specs.Limits.{degree_limit}
use Rattle.words.specs.Answers.{Outcome}
use Rattle.text.specs.Text.{Text}
use Rattle.text.specs.Wrote.{Wrote}
use Rattle.text.specs.Wrote.Laws.{wrote-end, wrote-first}
use Rattle.tabletext.specs.Table.{chartable, chartable_into}
use Rattle.tabletext.specs.Table.Room.{room, chartable-short}

module _ (input out : Text) (long : length out ≡ room) {text : Text} (e : chartable degree_limit input ≡ text) where
  fits : length text ≤ length out
  fits = omega (arith, chartable-short input, ap length e)

  pub answered : {end : ℕ} {after : Text} → Wrote text 0 out end after
      → Outcome (chartable_into degree_limit input out) end after
  unfolding chartable_into
  answered w = rw e (record { answers = wrote-end w (omega arith) fits; leaves = wrote-first w (omega arith) fits })

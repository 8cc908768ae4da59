-- How long a list of parts is, told by their number and the longest of them.
--   list_length count longest   a byte for each part, one more for the longest from 10 on, and the commas between them
use Rattle.std.specs.Prelude.{◌-◌, ◌*◌}
use Rattle.theory.specs.Basics.{cond, ℕ, ◌<?◌}

abbrev pub list_length : ℕ → ℕ → ℕ
list_length count longest = cond (longest <? 10) (2 * count - 1) (2 * count)

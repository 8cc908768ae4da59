-- What the test programs count.
--   none               no case yet
--   counted t right    one case more than t, and one more that is wrong where it was not right; counts wrap at 2^64
--   told t             the text of t: its cases, then how many of them are wrong
use Rattle.std.specs.Prelude.{ℕ, ◌+◌, ◌%◌, ◌^◌, Bool, not, List, ◌++◌, codes, decimal}
use mir.Val.{bool_byte}
use Rattle.testing.specs.declared.Tally.{Tally}

abbrev pub none : Tally
none = record { cases = 0; wrong = 0 }

abbrev pub counted : Tally → Bool → Tally
counted t right =
    record { cases = (t.cases + 1) % 2 ^ 64; wrong = (t.wrong + bool_byte (not right)) % 2 ^ 64 }

abbrev pub told : Tally → List ℕ
told t = decimal t.cases ++ codes " cases, " ++ decimal t.wrong ++ codes " wrong"

-- Lines of the gathered mode, as its judge meets them.
--   afforded limit b lines             no weight is 0, and the budget b suffices for the lines
--   word_cost limit x                   d! of the word x, d being the degree of its shape word
--   more_cost limit x z                 what its coefficient z asks for besides d! once
--   suffices_besides limit value xs zs  no word has its sign digit set, no coefficient is 0, and the value suffices for
--                                      what the coefficients ask for besides, line after line
use Rattle.std.specs.Prelude.{◌&&◌, ◌∷◌, ◌-◌, ◌*◌, ◌^◌}
use Rattle.theory.specs.Basics.{Bool, true, not, List, [], ℕ, ℤ, nat_abs, ◌=?◌, ◌≤?◌}
use Rattle.theory.specs.Basics.{◌<?◌, every}
use Rattle.theory.specs.Bounds.{factorial}
use Rattle.pages.specs.declared.degrees.Kind.TheVariants.{Shape}
use Rattle.pages.specs.Line.{Line}
use Rattle.pages.specs.Page.{line_of}
use Rattle.pages.specs.Gathering.{lasting}
use Rattle.pages.specs.Budget.{spent_all, Budget}
use Rattle.pages.specs.Private.Degrees.{word_degree}

abbrev pub afforded : ℕ → Budget → List Line → Bool
afforded limit b lines = every lasting lines && (spent_all limit b lines).enough

abbrev pub word_cost : ℕ → ℕ → ℕ
word_cost limit x = factorial (word_degree limit Shape (line_of x).shape)

abbrev pub more_cost : ℕ → ℕ → ℤ → ℕ
more_cost limit x z = (nat_abs z - 1) * word_cost limit x

unfoldable pub suffices_besides : ℕ → ℕ → List ℕ → List ℤ → Bool
suffices_besides limit value [] zs = true
suffices_besides limit value (x ∷ xs) [] = true
suffices_besides limit value (x ∷ xs) (z ∷ zs) =
    x <? 2 ^ 63 && not (nat_abs z =? 0) && more_cost limit x z ≤? value
    && suffices_besides limit (value - more_cost limit x z) xs zs

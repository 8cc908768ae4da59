-- Lines that are gathered (document 02, P7, "equal lines are joined at the earliest").
--   alike l m              two lines are equal: one shape word and one class word, whatever their coefficients
--   weighing z l           the line l with the weight z
--   brought lines h        the weight of h is added to the earliest line equal to it; if none is, h comes at the end
--   all_brought lines hs    each of hs is brought to the lines, one after the other
--   lasting l              its weight is not 0
--   gather lines hs        hs are joined to the lines, and those whose weight became 0 are taken out
--   distinct lines         no two lines are equal
--   gathered lines         no two lines are equal, and no weight is 0
--   coefficient l lines    what the lines equal to l weigh together
use Rattle.std.specs.Prelude.{◌&&◌, ◌∷◌, ◌+ℤ◌}
use Rattle.theory.specs.Basics.{Bool, true, not, cond, List, [], ℤ, nat_abs, ◌=?◌, keep, every, sum}
use Rattle.pages.specs.Line.{Line}
pub mod Laws
pub mod Sound
pub mod Different
pub mod AtOnce
pub mod Agree
pub mod Modes

abbrev pub alike : Line → Line → Bool
alike l m = l.shape =? m.shape && l.class =? m.class

abbrev pub weighing : ℤ → Line → Line
weighing z l = record { weight = z; shape = l.shape; class = l.class }

unfoldable pub brought : List Line → Line → List Line
brought [] h = h ∷ []
brought (l ∷ lines) h =
    cond (alike l h) (weighing (l.weight +ℤ h.weight) l ∷ lines) (l ∷ brought lines h)

unfoldable pub all_brought : List Line → List Line → List Line
all_brought lines [] = lines
all_brought lines (h ∷ hs) = all_brought (brought lines h) hs

abbrev pub lasting : Line → Bool
lasting l = not (nat_abs l.weight =? 0)

abbrev pub gather : List Line → List Line → List Line
gather lines hs = keep lasting (all_brought lines hs)

unfoldable pub distinct : List Line → Bool
distinct [] = true
distinct (l ∷ lines) = every (λ m. not (alike l m)) lines && distinct lines

abbrev pub gathered : List Line → Bool
gathered lines = distinct lines && every lasting lines

abbrev pub coefficient : Line → List Line → ℤ
coefficient l lines = sum (λ m. m.weight) (keep (alike l) lines)

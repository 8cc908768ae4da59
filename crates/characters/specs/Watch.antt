-- Watches (document 01, "Watches"; "Watch: 6, 7, 15, 8"; "If an answer is an enum"; document 02, P7, "Watches 1 and 4
-- multiply by the coefficient, watch 2 leaves it out"), in a mode m; without `_in`, in the plain mode.
--   Value               a whole number, a ratio, or none
--   reads answer        for each case of the answer, document 01's refusal number, 0 for none, and value
--   ratio l             signed character by character degree, in one 64-bit division of exact numbers
--   shown_in m s ls i k  what kind k shows of slip s, its lines ls and the line numbered i
--   kind_checks k n i    the checks of kind k and line i where n lines wait; kinds 3 to 5 ignore the line
--   watch_in ..          the refusal number and the value that a watch gives, by watch_checks_in
use Rattle.std.specs.Prelude.{Float, ◌∷◌, ◌++◌}
use Rattle.std.specs.Float.{binary64}
use Rattle.std.specs.Float.Ieee.{of_int, div}
use Rattle.theory.specs.Basics.{cond, List, [], ℕ, zero, suc, ℤ, ◌≤?◌, sum}
use Rattle.theory.specs.ShapeWord.{shape_of}
use Rattle.theory.specs.Character.{character_degree}
use Rattle.theory.specs.Refusals.{Check, first_of, refused_or, no-8, no-15}
use Rattle.pages.specs.Line.{Line, signed_character}
use Rattle.pages.specs.declared.Slip.{Slip}
use Rattle.pages.specs.Page.{line_at}
use Rattle.pages.specs.Mode.{Mode, waiting_in, plain_mode}
use Rattle.pages.specs.Sound.{page_checks_in}
use Rattle.characters.specs.declared.Watched.{Watched}
use Rattle.characters.specs.declared.Watched.TheVariants.{Whole, Ratio, Refused}
pub mod Answers
pub mod Ratios

pub data Value : Type 0 where
  whole : ℤ → Value
  quotient : Float → Value
  none : Value

abbrev pub reads : Watched → ℕ × Value
reads (Whole z) = (0, whole z)
reads (Ratio q) = (0, quotient q)
reads (Refused k) = (k, none)

unfoldable pub ratio : Line → Float
ratio l = div binary64 (of_int binary64 (signed_character l)) (of_int binary64 (character_degree (shape_of l.shape)))

abbrev pub kind_checks : ℕ → ℕ → ℕ → List Check
kind_checks kind lines line = no-15 kind ∷ cond (kind ≤? 2) (no-8 lines line ∷ []) []

-- ---- in any mode
module _ (m : Mode) where
  unfoldable pub shown_in : Slip → List Line → ℕ → ℕ → Value
  shown_in s lines i zero = none
  shown_in s lines i (suc zero) = whole (signed_character (line_at lines i))
  shown_in s lines i (suc (suc zero)) = quotient (ratio (m.own (line_at lines i)))
  shown_in s lines i (suc (suc (suc zero))) = whole s.settled
  shown_in s lines i (suc (suc (suc (suc zero)))) = whole (sum signed_character lines)
  shown_in s lines i (suc (suc (suc (suc (suc zero))))) = whole s.steps
  shown_in s lines i (suc (suc (suc (suc (suc (suc kind)))))) = none

  abbrev pub watch_checks_in : ℕ → Slip → m.Lent → ℕ → ℕ → List Check
  watch_checks_in limit slip x kind line =
      page_checks_in m limit slip x ++ kind_checks kind slip.lines line

  unfoldable pub watch_in : ℕ → Slip → m.Lent → ℕ → ℕ → ℕ × Value
  watch_in limit slip x kind line =
      refused_or (first_of (watch_checks_in limit slip x kind line)) (λ k. (k, none))
      (0, shown_in slip (waiting_in m slip x) line kind)

-- ---- in the plain mode
abbrev pub shown : Slip → List Line → ℕ → ℕ → Value
shown s lines i kind = shown_in plain_mode s lines i kind

abbrev pub watch_checks : ℕ → Slip → List ℕ → ℕ → ℕ → List Check
watch_checks limit slip page kind line = watch_checks_in plain_mode limit slip page kind line

abbrev pub watch : ℕ → Slip → List ℕ → ℕ → ℕ → ℕ × Value
watch limit slip page kind line = watch_in plain_mode limit slip page kind line

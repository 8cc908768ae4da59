-- Sound slip and page (document 01, "Sound slip and page"; document 02, P6: "Slips and lines keep good words"; P7,
-- "Sound then counts each d! as often as the coefficient's size", "a slip of the other mode is 7").
--   sound_line n l                 a good shape word and a good class word of one degree, 1 to n
--   line_value l, line_span l       what a line counts: d! as often as its weight's size, and S(d)
--   sound_words limit slip         the slip's shape word is good, and the slip's words pass checks 1 to 5
--   sound_lines limit slip lines   what is asked of a slip and its lines, however these are written down
--   sound_with m ..                the same, and what the mode m asks of all lines together
--   sound_in m limit slip x        the same of the lines of what is lent in the mode m, which they fit, all after them
--                                 being 0, and of a slip that says this mode
--   page_checks_in m ..             the checks of what is lent, and 7
--   sound, page_checks             these in the plain mode: of a slip and a page, 6 and 7
use Rattle.std.specs.Prelude.{◌&&◌, ◌∷◌, ◌++◌, ◌+◌, ◌*◌}
use Rattle.std.specs.Int.Signed.{non_neg}
use Rattle.theory.specs.Basics.{Bool, List, [], map, length, ℕ, nat_abs, ◌=?◌, ◌≤?◌, every}
use Rattle.theory.specs.Basics.{total}
use Rattle.theory.specs.Partition.{degree}
use Rattle.theory.specs.ShapeWord.{good_shape, shape_of}
use Rattle.theory.specs.ClassWord.{good_class, class_of}
use Rattle.theory.specs.Bounds.{factorial, S}
use Rattle.theory.specs.Refusals.{Check, first_of, pair_checks, no-7}
use Rattle.pages.specs.Line.{Line, line_degree}
use Rattle.pages.specs.Page.{Slip}
use Rattle.pages.specs.Mode.{Mode, waiting_in, plain_mode}
pub mod Laws
pub mod Bounds

unfoldable pub sound_line : ℕ → Line → Bool
sound_line n l =
    good_shape l.shape && good_class l.class && line_degree l =? degree (class_of l.class) && 1 ≤? line_degree l
    && line_degree l ≤? n

abbrev pub line_value : Line → ℕ
line_value l = nat_abs l.weight * factorial (line_degree l)

abbrev pub line_span : Line → ℕ
line_span l = S (line_degree l)

abbrev pub sound_words : ℕ → Slip → Bool
sound_words limit slip = good_shape slip.shape && first_of (pair_checks limit slip.shape slip.class) =? 0

unfoldable pub sound_lines : ℕ → Slip → List Line → Bool
sound_lines limit slip lines =
    sound_words limit slip
    && every (sound_line n) lines
    && nat_abs slip.settled + total (map line_value lines) ≤? factorial n
    && non_neg slip.steps
    && nat_abs slip.steps + total (map line_span lines) ≤? S n
  where
    n : ℕ
    n = degree (shape_of slip.shape)

abbrev pub sound_with : Mode → ℕ → Slip → List Line → Bool
sound_with m limit slip lines = m.stands lines && sound_lines limit slip lines

unfoldable pub sound_in : (m : Mode) → ℕ → Slip → m.Lent → Bool
sound_in m limit slip x =
    slip.mode =? m.number && slip.lines ≤? length (m.page x) && m.idle slip.lines x
    && sound_with m limit slip (waiting_in m slip x)

abbrev pub page_checks_in : (m : Mode) → ℕ → Slip → m.Lent → List Check
page_checks_in m limit slip x = m.lent_checks x ++ no-7 (sound_in m limit slip x) ∷ []

-- ---- in the plain mode
abbrev pub sound : ℕ → Slip → List ℕ → Bool
sound limit slip page = sound_in plain_mode limit slip page

abbrev pub page_checks : ℕ → Slip → List ℕ → List Check
page_checks limit slip page = page_checks_in plain_mode limit slip page

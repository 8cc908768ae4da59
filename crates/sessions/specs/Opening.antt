-- Opening (document 01, "Slip and page", second paragraph; "Opening: those, then 6, 10"; "A refused opening's slip";
-- document 02, P6: slip and line have the good word of the shape; P7, "an opening gives its line coefficient 1").
--   Handed, handed k slip a slip with the refusal number k beside it
--   refused e slip      a refusal, and the slip that is handed back; handed_told r, what is told of a call that gives r
--   first_lines s c     one line of weight 1, none at degree 0; first_settled s, 1 at degree 0, else 0
--   opening_in m ..     what an opening answers in the mode m, by opening_checks_in, and what it leaves of what is lent
--   opening ..         the same in the plain mode, and the page that it leaves; opening_checks
use Rattle.std.specs.Prelude.{◌∷◌, ◌++◌}
use Rattle.theory.specs.Basics.{cond, List, [], length, ℕ, ℤ, pos, ◌=?◌}
use Rattle.theory.specs.Partition.{degree}
use Rattle.theory.specs.ShapeWord.{shape_of, good_word}
use Rattle.theory.specs.Refusals.{Check, first_of, refused_or, pair_checks, no-10}
use Rattle.pages.specs.Line.{Line}
use Rattle.pages.specs.declared.Slip.{Slip}
use Rattle.pages.specs.Page.{slip_of, blank}
use Rattle.pages.specs.Mode.{Mode, plain_mode}
use Rattle.std.specs.declared.result.Result.{Result}
use Rattle.std.specs.declared.result.Result.TheVariants.{Ok, Err}
use Rattle.words.specs.declared.refusal.Refusal.{Refusal}
use Rattle.words.specs.Answers.{number_of}
pub use Rattle.sessions.specs.declared.Refused.{Refused}
pub mod Laws

pub record Handed : Type 0 where
  pub refused : ℕ
  pub slip : Slip

abbrev pub handed : ℕ → Slip → Handed
handed k slip = record { refused = k; slip = slip }

abbrev pub refused : Refusal → Slip → Refused
refused e slip = record { refusal = e; slip = slip }

abbrev pub handed_told : Result Slip Refused → Handed
handed_told (Ok slip) = handed 0 slip
handed_told (Err r) = handed (number_of r.refusal) r.slip

abbrev pub first_lines : ℕ → ℕ → List Line
first_lines s c = cond (degree (shape_of s) =? 0) [] (record { weight = pos 1; shape = s; class = c } ∷ [])

abbrev pub first_settled : ℕ → ℤ
first_settled s = cond (degree (shape_of s) =? 0) (pos 1) (pos 0)

abbrev pub opening_checks_in : (m : Mode) → ℕ → ℕ → ℕ → m.Lent → List Check
opening_checks_in m limit s c x =
    pair_checks limit s c ++ (m.lent_checks x ++ no-10 (first_lines (good_word s) c) (m.page x) ∷ [])

unfoldable pub opening_in : (m : Mode) → ℕ → ℕ → ℕ → m.Lent → Handed × m.Lent
opening_in m limit s c x =
    refused_or (first_of (opening_checks_in m limit s c x)) (λ k. (handed k blank, x)) (
      handed 0 (slip_of good c (first_settled good) (length (first_lines good c)) (pos 0) m.number),
      m.put (first_lines good c) x,
    )
  where
    good : ℕ
    good = good_word s

-- ---- in the plain mode
abbrev pub opening_checks : ℕ → ℕ → ℕ → List ℕ → List Check
opening_checks limit s c page = opening_checks_in plain_mode limit s c page

abbrev pub opening : ℕ → ℕ → ℕ → List ℕ → Handed × List ℕ
opening limit s c page = opening_in plain_mode limit s c page

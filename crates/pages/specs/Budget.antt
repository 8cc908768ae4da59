-- What is left of n! and S(n) (document 01, "Sound slip and page"), n being the degree that a slip asks for, as the
-- settled sum, the steps and line after line take from them.
--   Budget                    whether both suffice so far; the degree n; what is left of n!; what is left of S(n)
--   left n value span         a budget that suffices; overspent, one that does not, all zeros
--   budget_told r             what is told of a call that gives r: a budget that suffices, or overspent for None
--   budget_of limit slip       what the settled size leaves of n! and the steps of S(n); overspent where the slip's
--                             words are not sound, the steps are negative or one does not suffice
--   spent_on limit b l         what a line l leaves of the budget b, its value taken from the one and its span from the
--                             other; overspent where b was, where l is not sound within n, cut off at the limit, or
--                             where one does not suffice
--   spent_all limit b lines    what the lines leave, one after the other
use Rattle.std.specs.Prelude.{min, ◌&&◌, ◌∷◌, ◌-◌, Option, Some, None}
use Rattle.std.specs.Int.Signed.{non_neg}
use Rattle.theory.specs.Basics.{Bool, true, false, cond, List, [], ℕ, nat_abs, ◌≤?◌}
use Rattle.theory.specs.Partition.{degree}
use Rattle.theory.specs.ShapeWord.{shape_of}
use Rattle.theory.specs.Bounds.{factorial, S}
use Rattle.pages.specs.declared.Budget.{Budget as Kept}
use Rattle.pages.specs.Line.{Line}
use Rattle.pages.specs.Page.{Slip}
use Rattle.pages.specs.Sound.{sound_line, sound_words, line_value, line_span}
pub mod Laws
pub mod Totals

pub record Budget : Type 0 where
  pub enough : Bool
  pub degree : ℕ
  pub value : ℕ
  pub span : ℕ

abbrev pub left : ℕ → ℕ → ℕ → Budget
left n value span = record { enough = true; degree = n; value = value; span = span }

abbrev pub overspent : Budget
overspent = record { enough = false; degree = 0; value = 0; span = 0 }

abbrev pub budget_told : Option Kept → Budget
budget_told None = overspent
budget_told (Some b) = left b.degree b.value b.span

unfoldable pub budget_of : ℕ → Slip → Budget
budget_of limit slip =
    cond
    (sound_words limit slip && non_neg slip.steps
    && nat_abs slip.settled ≤? factorial n && nat_abs slip.steps ≤? S n)
    (left n (factorial n - nat_abs slip.settled) (S n - nat_abs slip.steps))
    overspent
  where
    n : ℕ
    n = degree (shape_of slip.shape)

unfoldable pub spent_on : ℕ → Budget → Line → Budget
spent_on limit b l =
    cond (b.enough && sound_line (min b.degree limit) l && line_value l ≤? b.value && line_span l ≤? b.span)
    (left b.degree (b.value - line_value l) (b.span - line_span l)) overspent

unfoldable pub spent_all : ℕ → Budget → List Line → Budget
spent_all limit b [] = b
spent_all limit b (l ∷ lines) = spent_all limit (spent_on limit b l) lines

-- Degrees that a line can have, and what is remembered of words.
--   sound_degree n l        the degree of a sound line l of degree n at most, and 0 of any other
--   most_degree limit b     the greatest degree of a line that the budget b can be spent on: 0 where it does not suffice
--   paid_for k d b          what a line of degree d leaves of the budget b, its weight being of the size k; overspent
--                          where one of the two does not suffice, or d is 0
--   word_degree limit k w   the degree of the word w, read as the kind k, and 0 where it is refused or no good word
--   Known f x              the number x is right about the word x / 32: f makes x % 32 of it
--   AllKnown k known       all that is remembered is right about words of the kind k
--   Knows shapes classes   all that is remembered of shape words and of class words is right
use Rattle.std.specs.Prelude.{◌≡◌, min, ◌&&◌, ◌-◌, ◌*◌, ◌/◌, ◌%◌}
use Rattle.theory.specs.Basics.{cond, List, Each, ℕ, nat_abs, ◌≤?◌}
use Rattle.theory.specs.ShapeWord.{good_shape}
use Rattle.theory.specs.Bounds.{factorial, S}
use Rattle.theory.specs.Limits.{degree_limit}
use Rattle.words.specs.Calls.{shape_reading, class_degree}
use Rattle.pages.specs.declared.degrees.Kind.{Kind}
use Rattle.pages.specs.declared.degrees.Kind.TheVariants.{Shape, Class}
use Rattle.pages.specs.Line.{Line, line_degree}
use Rattle.pages.specs.Sound.{sound_line}
use Rattle.pages.specs.Budget.{left, overspent, Budget}

unfoldable pub sound_degree : ℕ → Line → ℕ
sound_degree n l = cond (sound_line n l) (line_degree l) 0

abbrev pub most_degree : ℕ → Budget → ℕ
most_degree limit b = cond b.enough (min b.degree limit) 0

unfoldable pub paid_for : ℕ → ℕ → Budget → Budget
paid_for k d b =
    cond (1 ≤? d && k * factorial d ≤? b.value && S d ≤? b.span)
    (left b.degree (b.value - k * factorial d) (b.span - S d)) overspent

unfoldable pub word_degree : ℕ → Kind → ℕ → ℕ
word_degree limit Class w = nat_abs (class_degree limit w).number
word_degree limit Shape w = cond (good_shape w) (shape_reading limit w).degree 0

abbrev pub Known : (ℕ → ℕ) → ℕ → Type 0
Known f x = f (x / 32) ≡ x % 32

abbrev pub AllKnown : Kind → List ℕ → Type 0
AllKnown kind known = Each (Known (word_degree degree_limit kind)) known

pub record Knows (shapes classes : List ℕ) : Type 0 where
  pub of-shapes : AllKnown Shape shapes
  pub of-classes : AllKnown Class classes

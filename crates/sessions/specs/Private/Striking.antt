-- What the private functions on waiting lines are asked.
--   class_without cycle w   a class word without one cycle, where it has such a cycle
--   multiplied a b        a sign with another multiplied in: minus where just one of the two is
--   Strikes ..            a sound line l is struck by a cycle of its class, `class` is the class word without it, and
--                         the strip has room for the hook lines that wait
--   stripped ..           what comes of it: how many hook lines wait, what is settled, and their words on the strip
use Rattle.std.specs.Prelude.{◌≡◌, ◌≤◌, ◌++◌, Option, None, Some}
use Rattle.theory.specs.Basics.{Bool, not, cond, List, map, length, drop, ℕ, ℤ, ◌=?◌, sum}
use Rattle.theory.specs.Partition.{times, without}
use Rattle.theory.specs.ClassWord.{class_word, class_of}
use Rattle.pages.specs.Line.{Line}
use Rattle.pages.specs.Line.Hooks.{Has}
use Rattle.pages.specs.Line.Weights.{weight_of}
use Rattle.pages.specs.Page.{word_of}
use Rattle.pages.specs.Sound.Laws.{SoundLine}
use Rattle.sessions.specs.declared.lines.HookLines.{HookLines}
use Rattle.sessions.specs.Step.{settled_hooks, waiting_hooks}

unfoldable pub class_without : ℕ → ℕ → Option ℕ
class_without cycle w = cond (times cycle (class_of w) =? 0) None (Some (class_word (without cycle (class_of w))))

abbrev pub multiplied : Bool → Bool → Bool
multiplied a b = cond a (not b) b

pub record Strikes (limit cycle : ℕ) (l : Line) (class : ℕ) (strip : List ℕ) : Type 0 where
  pub soundness : SoundLine limit l
  pub has : Has cycle l
  pub class-left : class ≡ class_word (without cycle (class_of l.class))
  pub room : length (waiting_hooks cycle l) ≤ length strip

abbrev pub hook_count : ℕ → ℤ → HookLines
hook_count count settled = record { count = count; settled = settled }

unfoldable pub stripped : ℕ → Line → List ℕ → HookLines × List ℕ
stripped cycle l strip =
    (hook_count (length hooks) (sum weight_of (settled_hooks cycle l)), map word_of hooks ++ drop (length hooks) strip)
  where
    hooks : List Line
    hooks = waiting_hooks cycle l

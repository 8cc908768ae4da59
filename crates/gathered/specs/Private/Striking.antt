-- A line of the gathered mode struck by itself.
--   cleared x           the word x without its sign digit; turned z x, the number z with the sign of the word x
--   struck_checks ..     the checks of the cycle and of the strip
--   Hooked cycle l ..   what an accepted strike tells and leaves: the hook lines of l that wait, as words and weights
--   Strikes cycle l ..  what a strike answers, and what it leaves where it does not refuse
use Rattle.std.specs.Prelude.{◌≡◌, ◌≤◌, ◌∷◌, ◌%◌, ◌^◌, IfOk}
use Rattle.theory.specs.Basics.{List, [], map, length, take, ℕ, ℤ, signed, sum}
use Rattle.theory.specs.Digits.{bit}
use Rattle.theory.specs.Limits.{degree_limit}
use Rattle.theory.specs.ClassWord.{class_of}
use Rattle.theory.specs.Refusals.{Check, first_of, no_9, no-19}
use Rattle.std.specs.declared.result.Result.{Result}
use Rattle.words.specs.declared.refusal.Refusal.{Refusal}
use Rattle.words.specs.Answers.{refusal_of}
use Rattle.pages.specs.Line.{Line}
use Rattle.pages.specs.Line.Weights.{weight_of}
use Rattle.pages.specs.Page.{word_of}
use Rattle.pages.specs.Mode.{alongside, unit}
use Rattle.sessions.specs.Step.{settled_hooks, waiting_hooks}
use Rattle.gathered.specs.declared.commits.Struck.{Struck}

abbrev pub cleared : ℕ → ℕ
cleared x = x % 2 ^ 63

abbrev pub turned : ℤ → ℕ → ℤ
turned z x = signed (bit 63 x) z

abbrev pub struck_checks : ℕ → Line → List ℕ → List Check
struck_checks cycle l strip =
    no_9 (class_of l.class) cycle ∷ no-19 (map word_of (waiting_hooks cycle (unit l))) strip ∷ []

pub record Hooked (cycle : ℕ) (l : Line) (r : Struck) (words : List ℕ) (weights : List ℤ) : Type 0 where
  pub count : r.count ≡ length (waiting_hooks cycle l)
  pub settled : r.settled ≡ sum weight_of (settled_hooks cycle l)
  pub few : r.count ≤ degree_limit
  pub long : length words ≡ degree_limit
  pub long-weights : length weights ≡ degree_limit
  pub lines : alongside (take r.count words) (take r.count weights) ≡ waiting_hooks cycle l

pub record Strikes (cycle : ℕ) (l : Line) (strip : List ℕ) (r : Result Struck Refusal) (words : List ℕ)
    (weights : List ℤ) : Type 0 where
  pub number : refusal_of r ≡ first_of (struck_checks cycle l strip)
  pub hooked : IfOk r (λ h. Hooked cycle l h words weights)

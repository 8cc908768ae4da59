-- What comes of a line that is named and struck by a cycle that is named.
--   Struck, struck k n z   refused with k, or n hook lines wait and z is settled
--   struck_told r    what is told of a call that gives r
--   struck_onto ..    refused by a check from 6 to 9, or the new lines at the front of a strip
use Rattle.theory.specs.Basics.{List, length, ℕ, ℤ, pos, sum}
use Rattle.theory.specs.Refusals.{first_of, refused_or}
use Rattle.std.specs.declared.result.Result.{Result}
use Rattle.words.specs.declared.refusal.Refusal.{Refusal}
use Rattle.words.specs.Answers.{told, at_front}
use Rattle.pages.specs.Line.Weights.{weight_of}
use Rattle.pages.specs.declared.Slip.{Slip}
use Rattle.pages.specs.Page.{line_at}
use Rattle.pages.specs.Mode.{waiting}
use Rattle.sessions.specs.declared.lines.HookLines.{HookLines}
use Rattle.sessions.specs.Step.{settled_hooks, named_checks, new_lines}
use Rattle.sessions.specs.Private.Striking.{hook_count}

pub record Struck : Type 0 where
  pub refused : ℕ
  pub count : ℕ
  pub settled : ℤ

abbrev pub struck : ℕ → ℕ → ℤ → Struck
struck k count settled = record { refused = k; count = count; settled = settled }

abbrev pub struck_told : Result HookLines Refusal → Struck
struck_told = told (λ k h. struck k h.count h.settled) (hook_count 0 (pos 0))

unfoldable pub struck_onto : ℕ → Slip → List ℕ → ℕ → ℕ → List ℕ → Struck × List ℕ
struck_onto limit slip page line cycle strip =
    refused_or (first_of (named_checks limit slip page line cycle)) (λ k. (struck k 0 (pos 0), strip))
    (struck 0 (length new) (sum weight_of (settled_hooks cycle (line_at (waiting slip page) line))), at_front new strip)
  where
    new : List ℕ
    new = new_lines slip page line cycle

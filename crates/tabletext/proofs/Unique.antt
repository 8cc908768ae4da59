-- No second outcome meets the contract of `answer`. The theorem is of the contract itself, as Rattle reads it
-- (`Reads.Post`).
use mathlib.Core.Path.{◌≡◌}
use Rattle.theory.specs.Limits.{degree_limit}
use Rattle.words.specs.Answers.Laws.{one-outcome}
use Rattle.tabletext.specs.Table.{chartable_into}
use Rattle.tabletext.proofs.answer.Reads as answer

pub answer-once : (κs : _) (a : _) (r r' : _) (s s' : _) → answer.Post κs a r s → answer.Post κs a r' s'
    → (r ≡ r') × (s.1.0.now ≡ s'.1.0.now)
answer-once κs a r r' s s' p q = one-outcome (chartable_into degree_limit a.0.now a.1.0.now) p q

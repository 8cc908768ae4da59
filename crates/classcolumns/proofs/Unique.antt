-- No second outcome meets a contract. The theorem is of the contract itself, as Rattle reads it (`Reads.Post`).
use mathlib.Core.Path.{◌≡◌}
use Rattle.theory.specs.Limits.{degree_limit}
use Rattle.words.specs.Answers.Laws.{one-outcome}
use Rattle.words.proofs.Told.{count-told-once}
use Rattle.classcolumns.specs.Calls.{column_into}
use Rattle.classcolumns.proofs.column.Reads as column

pub column-once : (κs : _) (a : _) (r r' : _) (s s' : _) → column.Post κs a r s → column.Post κs a r' s'
    → (r ≡ r') × (s.1.0.now ≡ s'.1.0.now)
column-once κs a r r' s s' p q =
    let one = one-outcome (column_into degree_limit a.0 a.1.0.now) p q in (count-told-once one.0, one.1)

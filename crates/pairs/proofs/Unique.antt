-- No second outcome meets a contract. The theorem is of the contract itself, as Rattle reads it (`Reads.Post`).
use mathlib.Core.Path.{◌≡◌, sym, ◌∙◌}
use Rattle.theory.specs.Limits.{degree_limit}
use Rattle.pairs.proofs.WordPairs.{common-told-once}
use Rattle.pairs.proofs.common_degree.Reads as common-degree

pub common-degree-once : (κs : _) (a : _) (r r' : _) (s s' : _) → common-degree.Post κs a r s
    → common-degree.Post κs a r' s' → r ≡ r'
common-degree-once κs a r r' s s' p q = common-told-once degree_limit a.0 a.1.0 (p ∙ sym q)

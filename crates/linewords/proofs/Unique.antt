-- No second outcome meets a contract. Each theorem is of the contract itself, as Rattle reads it (`Reads.Post`).
use mathlib.Core.Path.{◌≡◌, sym, ◌∙◌}
use Rattle.linewords.proofs.minus.Reads as minus
use Rattle.linewords.proofs.shape.Reads as shape
use Rattle.linewords.proofs.class.Reads as class
use Rattle.linewords.proofs.word.Reads as word

pub line-minus-once : (κs : _) (a : _) (r r' : _) (s s' : _) → minus.Post κs a r s → minus.Post κs a r' s' → r ≡ r'
line-minus-once κs a r r' s s' p q = p ∙ sym q

pub line-shape-once : (κs : _) (a : _) (r r' : _) (s s' : _) → shape.Post κs a r s → shape.Post κs a r' s' → r ≡ r'
line-shape-once κs a r r' s s' p q = p ∙ sym q

pub line-class-once : (κs : _) (a : _) (r r' : _) (s s' : _) → class.Post κs a r s → class.Post κs a r' s' → r ≡ r'
line-class-once κs a r r' s s' p q = p ∙ sym q

pub line-word-once : (κs : _) (a : _) (r r' : _) (s s' : _) → word.Post κs a r s → word.Post κs a r' s' → r ≡ r'
line-word-once κs a r r' s s' p q = p ∙ sym q

-- No second outcome meets a contract. Each theorem is of the contract itself, as Rattle reads it (`Reads.Post`).
use mathlib.Core.Path.{◌≡◌, sym, ◌∙◌}
use Rattle.text.specs.Wrote.Laws.{wrote-once}
use Rattle.textreading.proofs.find.Reads as find
use Rattle.textreading.proofs.number_in.Reads as number_in
use Rattle.textreading.proofs.list_in.Reads as list-in
use Rattle.textreading.proofs.line_end.Reads as line-end
use Rattle.textreading.proofs.line_count.Reads as line-count

pub find-once : (κs : _) (a : _) (r r' : _) (s s' : _) → find.Post κs a r s → find.Post κs a r' s' → r ≡ r'
find-once κs a r r' s s' p q = p ∙ sym q

pub number-in-once : (κs : _) (a : _) (r r' : _) (s s' : _) → number_in.Post κs a r s → number_in.Post κs a r' s' → r ≡
    r'
number-in-once κs a r r' s s' p q = p ∙ sym q

pub list-in-once : (κs : _) (a : _) (r r' : _) (s s' : _) → list-in.Post κs a r s → list-in.Post κs a r' s'
    → (r ≡ r') × (s.1.0.now ≡ s'.1.0.now)
list-in-once κs a r r' s s' p q = wrote-once p q

pub line-end-once : (κs : _) (a : _) (r r' : _) (s s' : _) → line-end.Post κs a r s → line-end.Post κs a r' s' → r ≡ r'
line-end-once κs a r r' s s' p q = p ∙ sym q

pub line-count-once : (κs : _) (a : _) (r r' : _) (s s' : _) → line-count.Post κs a r s → line-count.Post κs a r' s'
    → r ≡ r'
line-count-once κs a r r' s s' p q = p ∙ sym q

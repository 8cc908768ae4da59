-- No second outcome meets a contract. Each theorem is of the contract itself, as Rattle reads it (`Reads.Post`).
use mathlib.Core.Path.{◌≡◌, sym, ◌∙◌}
use Rattle.words.proofs.Told.{judged-once}
use Rattle.pages.proofs.Budgets.{budget-told-once}
use Rattle.pages.proofs.soundness.budget.Reads as budget
use Rattle.pages.proofs.soundness.spend.Reads as spend
use Rattle.pages.proofs.soundness.refusal.Reads as refusal
use Rattle.pages.proofs.gathering.refusal.Reads as gathered-refusal

-- ---- soundness
pub budget-once : (κs : _) (a : _) (r r' : _) (s s' : _) → budget.Post κs a r s → budget.Post κs a r' s' → r ≡ r'
budget-once κs a r r' s s' p q = budget-told-once (p ∙ sym q)

pub spend-once : (κs : _) (a : _) (r r' : _) (s s' : _) → spend.Post κs a r s → spend.Post κs a r' s' → r ≡ r'
spend-once κs a r r' s s' p q = budget-told-once (p ∙ sym q)

pub refusal-once : (κs : _) (a : _) (r r' : _) (s s' : _) → refusal.Post κs a r s → refusal.Post κs a r' s' → r ≡ r'
refusal-once κs a r r' s s' p q = judged-once (p ∙ sym q)

-- ---- gathering
pub gathered-refusal-once : (κs : _) (a : _) (r r' : _) (s s' : _) → gathered-refusal.Post κs a r s
    → gathered-refusal.Post κs a r' s' → r ≡ r'
gathered-refusal-once κs a r r' s s' p q = judged-once (p ∙ sym q)

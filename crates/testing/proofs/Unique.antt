-- No second outcome meets a contract. Each theorem is of the contract itself, as Rattle reads it (`Reads.Post`).
use Rattle.std.proofs.Common.{◌≡◌, sym, ◌∙◌}
use Rattle.testing.proofs.Tally.new.Reads as new-reads
use Rattle.testing.proofs.Tally.add.Reads as add_reads
use Rattle.testing.proofs.numbers.natural.Reads as natural-reads
use Rattle.testing.proofs.numbers.factorial.Reads as factorial-reads
use Rattle.testing.proofs.numbers.sum.Reads as sum-reads

pub new-once : (κs : _) (a : _) (r r' : _) (s s' : _) → new-reads.Post κs a r s → new-reads.Post κs a r' s' → r ≡ r'
new-once κs a r r' s s' p q = p ∙ sym q

pub add_once : (κs : _) (a : _) (r r' : _) (s s' : _) → add_reads.Post κs a r s → add_reads.Post κs a r' s' → r ≡ r'
add_once κs a r r' s s' p q = p ∙ sym q

pub natural-once : (κs : _) (a : _) (r r' : _) (s s' : _)
    → natural-reads.Post κs a r s → natural-reads.Post κs a r' s' → r ≡ r'
natural-once κs a r r' s s' p q = p ∙ sym q

pub factorial-once : (κs : _) (a : _) (r r' : _) (s s' : _)
    → factorial-reads.Post κs a r s → factorial-reads.Post κs a r' s' → r ≡ r'
factorial-once κs a r r' s s' p q = p ∙ sym q

pub sum-once : (κs : _) (a : _) (r r' : _) (s s' : _) → sum-reads.Post κs a r s → sum-reads.Post κs a r' s' → r ≡ r'
sum-once κs a r r' s s' p q = p ∙ sym q

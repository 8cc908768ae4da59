-- No second outcome meets a contract. Each theorem is of the contract itself, as Rattle reads it (`Reads.Post`).
use mathlib.Core.Path.{◌≡◌, sym, ◌∙◌}
use Rattle.words.proofs.Told.{word-told-once, number-told-once}
use Rattle.listing.proofs.Indexes.{section-told-once}
use Rattle.listing.proofs.shape_words.Reads as shape-words
use Rattle.listing.proofs.section.Reads as section
use Rattle.listing.proofs.shape_at.Reads as shape_at
use Rattle.listing.proofs.class_at.Reads as class-at
use Rattle.listing.proofs.shape_rank.Reads as shape-rank
use Rattle.listing.proofs.class_rank.Reads as class-rank

pub shape-words-once : (κs : _) (a : _) (r r' : _) (s s' : _) → shape-words.Post κs a r s
    → shape-words.Post κs a r' s' → r ≡ r'
shape-words-once κs a r r' s s' p q = p ∙ sym q

pub section-once : (κs : _) (a : _) (r r' : _) (s s' : _) → section.Post κs a r s → section.Post κs a r' s' → r ≡ r'
section-once κs a r r' s s' p q = section-told-once (p ∙ sym q)

pub shape-at-once : (κs : _) (a : _) (r r' : _) (s s' : _) → shape_at.Post κs a r s → shape_at.Post κs a r' s' → r ≡ r'
shape-at-once κs a r r' s s' p q = word-told-once (p ∙ sym q)

pub class-at-once : (κs : _) (a : _) (r r' : _) (s s' : _) → class-at.Post κs a r s → class-at.Post κs a r' s' → r ≡ r'
class-at-once κs a r r' s s' p q = word-told-once (p ∙ sym q)

pub shape-rank-once : (κs : _) (a : _) (r r' : _) (s s' : _) → shape-rank.Post κs a r s → shape-rank.Post κs a r' s'
    → r ≡ r'
shape-rank-once κs a r r' s s' p q = number-told-once (p ∙ sym q)

pub class-rank-once : (κs : _) (a : _) (r r' : _) (s s' : _) → class-rank.Post κs a r s → class-rank.Post κs a r' s'
    → r ≡ r'
class-rank-once κs a r r' s s' p q = number-told-once (p ∙ sym q)

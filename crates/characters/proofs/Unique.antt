-- No second outcome meets a contract. Each theorem is of the contract itself, as Rattle reads it (`Reads.Post`).
use mathlib.Core.Path.{◌≡◌, sym, ◌∙◌}
use Rattle.words.proofs.Told.{number-told-once, judged-once}
use Rattle.characters.specs.Watch.Answers.{one_answer}
use Rattle.characters.proofs.character.Reads as character
use Rattle.characters.proofs.character_degree.Reads as character-degree
use Rattle.characters.proofs.watches.kind_refusal.Reads as kind-refusal
use Rattle.characters.proofs.watches.watch.Reads as watch-session

-- ---- characters
pub character-once : (κs : _) (a : _) (r r' : _) (s s' : _) → character.Post κs a r s
    → character.Post κs a r' s' → r ≡ r'
character-once κs a r r' s s' p q = number-told-once (p ∙ sym q)

pub character-degree-once : (κs : _) (a : _) (r r' : _) (s s' : _) → character-degree.Post κs a r s
    → character-degree.Post κs a r' s' → r ≡ r'
character-degree-once κs a r r' s s' p q = number-told-once (p ∙ sym q)

-- ---- watches
pub kind-refusal-once : (κs : _) (a : _) (r r' : _) (s s' : _) → kind-refusal.Post κs a r s
    → kind-refusal.Post κs a r' s' → r ≡ r'
kind-refusal-once κs a r r' s s' p q = judged-once (p ∙ sym q)

pub watch-once : (κs : _) (a : _) (r r' : _) (s s' : _) → watch-session.Post κs a r s → watch-session.Post κs a r' s'
    → r ≡ r'
watch-once κs a r r' s s' p q = one_answer r r' _ p q

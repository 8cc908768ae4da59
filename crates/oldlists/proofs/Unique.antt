-- No second outcome meets a contract. Each theorem is of the contract itself, as Rattle reads it (`Reads.Post`).
use Rattle.std.specs.Prelude.{⊤}
use mathlib.Core.Path.{◌≡◌, refl, sym, ap, ap₂}
use Rattle.std.specs.declared.result.Result.{Result}
use Rattle.std.specs.declared.result.Result.TheVariants.{Ok, Err}
use Rattle.theory.specs.Basics.{ℕ}
use Rattle.theory.specs.Limits.{degree_limit}
use Rattle.words.specs.declared.refusal.Refusal.{Refusal}
use Rattle.words.specs.Answers.Laws.{one-outcome}
use Rattle.words.proofs.Told.{refuses, number-once}
use Rattle.oldlists.specs.declared.Rejected.{Rejected}
use Rattle.oldlists.specs.Lists.{ListAnswer, list_told}
use Rattle.oldlists.specs.Calls.{shapes_from_old, shapes_to_old}
use Rattle.oldlists.proofs.from_old.Reads as shapes-from-old
use Rattle.oldlists.proofs.to_old.Reads as shapes-to-old

-- no two results are told alike
list-told-once : {r s : Result ⊤ Rejected} → list_told r ≡ list_told s → r ≡ s
list-told-once {r = Ok x} {s = Ok y} e = refl
list-told-once {r = Ok x} {s = Err d} e = absurd (refuses d.refusal (sym (ap (λ (a : ListAnswer). a.refused) e)))
list-told-once {r = Err c} {s = Ok y} e = absurd (refuses c.refusal (ap (λ (a : ListAnswer). a.refused) e))
list-told-once {r = Err c} {s = Err d} e =
    ap₂ (λ (k : Refusal) (i : ℕ). Err (record { refusal = k; index = i }))
    (number-once (ap (λ (a : ListAnswer). a.refused) e)) (ap (λ (a : ListAnswer). a.index) e)

pub shapes-from-old-once : (κs : _) (a : _) (r r' : _) (s s' : _) → shapes-from-old.Post κs a r s
    → shapes-from-old.Post κs a r' s' → (r ≡ r') × (s.1.0.now ≡ s'.1.0.now)
shapes-from-old-once κs a r r' s s' p q =
    let one = one-outcome (shapes_from_old degree_limit a.0.now a.1.0.now) p q in (list-told-once one.0, one.1)

pub shapes-to-old-once : (κs : _) (a : _) (r r' : _) (s s' : _) → shapes-to-old.Post κs a r s
    → shapes-to-old.Post κs a r' s' → (r ≡ r') × (s.1.0.now ≡ s'.1.0.now)
shapes-to-old-once κs a r r' s s' p q =
    let one = one-outcome (shapes_to_old degree_limit a.0.now a.1.0.now) p q in (list-told-once one.0, one.1)

-- No second outcome meets a contract. Each theorem is of the contract itself, as Rattle reads it (`Reads.Post`).
use mathlib.Core.Path.{◌≡◌, refl, sym, ap}
use Rattle.std.specs.declared.result.Result.{Result}
use Rattle.std.specs.declared.result.Result.TheVariants.{Ok, Err}
use Rattle.words.proofs.Told.{refuses, number-once, count-told-once}
use Rattle.pages.specs.declared.Slip.{Slip}
use Rattle.sessiontext.specs.declared.Unloaded.{Unloaded}
use Rattle.theory.specs.Basics.{List, ℕ, ℤ}
use Rattle.theory.specs.Limits.{degree_limit}
use Rattle.words.specs.Answers.Laws.{one-outcome}
use Rattle.sessiontext.specs.SessionText.{gathered_form}
use Rattle.sessiontext.specs.Calls.{Loaded, loaded_told, save_into, load_into, save_by, load_by}
use Rattle.sessiontext.proofs.save.Reads as save
use Rattle.sessiontext.proofs.load.Reads as load
use Rattle.sessiontext.proofs.gathered.save.Reads as gathered-save
use Rattle.sessiontext.proofs.gathered.load.Reads as gathered-load

-- a load is told by what it gives
loaded-told-once : {r s : Result Slip Unloaded} → loaded_told r ≡ loaded_told s → r ≡ s
loaded-told-once {r = Ok x} {s = Ok y} e = ap Ok (ap (λ (l : Loaded). l.slip) e)
loaded-told-once {r = Ok x} {s = Err d} e = absurd (refuses d.refusal (sym (ap (λ (l : Loaded). l.refused) e)))
loaded-told-once {r = Err d} {s = Ok y} e = absurd (refuses d.refusal (ap (λ (l : Loaded). l.refused) e))
loaded-told-once {r = Err c} {s = Err d} e =
    let refusal : c.refusal ≡ d.refusal = number-once (ap (λ (l : Loaded). l.refused) e) in
    let line : c.line ≡ d.line = ap (λ (l : Loaded). l.line) e in
    let slip : c.slip ≡ d.slip = ap (λ (l : Loaded). l.slip) e in
    ap Err (rw (refusal, line, slip) refl)

pub save-once : (κs : _) (a : _) (r r' : _) (s s' : _) → save.Post κs a r s → save.Post κs a r' s'
    → (r ≡ r') × (s.1.1.0.now ≡ s'.1.1.0.now)
save-once κs a r r' s s' p q =
    let one = one-outcome (save_into degree_limit a.0 a.1.0.now a.1.1.0.now) p q in (count-told-once one.0, one.1)

pub load-once : (κs : _) (a : _) (r r' : _) (s s' : _) → load.Post κs a r s → load.Post κs a r' s'
    → (r ≡ r') × (s.1.0.now ≡ s'.1.0.now)
load-once κs a r r' s s' p q =
    let one = one-outcome (load_into degree_limit a.0.now a.1.0.now) p q in (loaded-told-once one.0, one.1)

pub gathered-save-once : (κs : _) (a : _) (r r' : _) (s s' : _) → gathered-save.Post κs a r s
    → gathered-save.Post κs a r' s' → (r ≡ r') × (s.1.1.1.0.now ≡ s'.1.1.1.0.now)
gathered-save-once κs a r r' s s' p q =
    let one = one-outcome (save_by gathered_form degree_limit a.0 (a.1.0.now, a.1.1.0.now) a.1.1.1.0.now) p q in
    (count-told-once one.0, one.1)

pub gathered-load-once : (κs : _) (a : _) (r r' : _) (s s' : _) → gathered-load.Post κs a r s
    → gathered-load.Post κs a r' s'
    → (r ≡ r') × (s.1.0.now ≡ s'.1.0.now) × (s.1.1.0.now ≡ s'.1.1.0.now)
gathered-load-once κs a r r' s s' p q =
    let (answer, lent) =
    one-outcome (load_by gathered_form degree_limit a.0.now (a.1.0.now, a.1.1.0.now)) p q in
    (loaded-told-once answer, ap (λ (x : List ℕ × List ℤ). x.0) lent, ap (λ (x : List ℕ × List ℤ). x.1) lent)

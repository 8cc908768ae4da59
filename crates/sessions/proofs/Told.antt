-- What is told of a call that hands a slip back says what it gave: no two results are told alike.
--   Beside slip r s   the result s is r with the slip put beside its refusal
use mathlib.Core.Path.{◌≡◌, refl, sym, ap, ap₂}
use borrow.Author.Tests.{clash}
use Rattle.std.specs.Result.{MatchResult, IsErrAnd, is_ok, result_unwrap_or}
use Rattle.std.specs.declared.result.Result.{Result}
use Rattle.std.specs.declared.result.Result.TheVariants.{Ok, Err}
use Rattle.words.specs.declared.refusal.Refusal.{Refusal}
use Rattle.words.specs.Answers.{told, refusal_of}
use Rattle.words.proofs.Told.{refuses, number-once}
use Rattle.pages.specs.declared.Slip.{Slip}
use Rattle.sessions.specs.Opening.{Handed, Refused, refused, handed, handed_told}

pub handed-told-once : {r s : Result Slip Refused} → handed_told r ≡ handed_told s → r ≡ s
handed-told-once {r = Ok x} {s = Ok y} e = ap (λ (h : Handed). Ok h.slip) e
handed-told-once {r = Ok x} {s = Err d} e = absurd (refuses d.refusal (sym (ap (λ (h : Handed). h.refused) e)))
handed-told-once {r = Err c} {s = Ok y} e = absurd (refuses c.refusal (ap (λ (h : Handed). h.refused) e))
handed-told-once {r = Err c} {s = Err d} e =
    ap Err
    (ap₂ refused (number-once (ap (λ (h : Handed). h.refused) e)) (ap (λ (h : Handed). h.slip) e))

-- ---- a slip put beside a refusal
abbrev pub Beside : {A : Type 0} → Slip → Result A Refusal → Result A Refused → Type 0
Beside slip r s = MatchResult r (λ x. s ≡ Ok x) (λ e. IsErrAnd s (λ d. d ≡ refused e slip))

pub told-beside : (slip : Slip) (r : Result Slip Refusal) (s : Result Slip Refused) → Beside slip r s
    → handed_told s ≡ told handed slip r
told-beside slip (Ok x) s same = ap handed_told same
told-beside slip (Err e) (Ok y) none = absurd none
told-beside slip (Err e) (Err d) same = ap (λ d. handed_told (Err d)) same

pub given-before : {A : Type 0} (slip : Slip) (r : Result A Refusal) {x : A} → Beside slip r (Ok x) → r ≡ Ok x
given-before slip (Ok y) {x} same = ap (λ s. Ok (result_unwrap_or s x)) (sym same)
given-before slip (Err e) none = absurd none

pub refused-before : {A : Type 0} (slip : Slip) (r : Result A Refusal) {d : Refused} → Beside slip r (Err d)
    → (e : Refusal) × (r ≡ Err e) × (d ≡ refused e slip)
refused-before slip (Ok y) same = absurd (clash (ap is_ok same))
refused-before slip (Err e) p = (e, refl, p)

pub passed-before : {A : Type 0} (slip : Slip) (r : Result A Refusal) (x : A) → Beside slip r (Ok x) → refusal_of r ≡ 0
passed-before slip (Ok y) x same = refl
passed-before slip (Err e) x none = absurd none

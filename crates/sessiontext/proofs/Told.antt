-- What a comparison tells: a line that is written out of what was read off it is that value's, any other is no value's.
--   Compared b t u   b says whether the texts t and u are the same
use mathlib.Core.Path.{◌≡◌, refl, sym, ◌∙◌}
use mathlib.Core.Bool.{false≢true}
use native.Mathlib.Omega.{arith}
use borrow.Author.Tests.{eqb-true}
use Rattle.std.specs.Prelude.{Option, None, Some, MatchOption, IsSome, Result, Err, ◌==◌, ◌<◌}
use Rattle.std.specs.Option.{ok_or}
use Rattle.std.specs.Bool.{then_some}
use Rattle.theory.specs.Basics.{Bool, true, false, List, ℕ, zero, suc, take}
use Rattle.text.specs.Text.{Text}
use Rattle.sessiontext.specs.Private.Read.{Tells}
use Rattle.sessiontext.proofs.Own.{Own}

abbrev pub Compared : Bool → Text → Text → Type 0
Compared b t u = (b ≡ true → t ≡ u) × (t ≡ u → b ≡ true)

pub compared-own : {b : Bool} {t u : Text} {end : ℕ} {bytes : List ℕ} → Compared b t (take end bytes) → Own u end bytes
    → Compared b t u
compared-own c o = (λ e. c.0 e ∙ o.front, λ e. c.1 (e ∙ sym o.front))

pub told : {A : Type 0} {b test : Bool} {v value : A} {r : Option A} → r ≡ then_some b v → b ≡ test
    → (b ≡ true → v ≡ value) → Tells test value r
told {A} {b} {test} {v} {value} e t h = rw e (go b t h)
  where
    go : (b : Bool) → b ≡ test → (b ≡ true → v ≡ value) → Tells test value (then_some b v)
    go true t h = (sym t, h refl)
    go false t h = sym t

-- ---- a value or else an error
pub err-told : {A E : Type 0} {r : Option A} {x k : E} → r ≡ None → ◌≡◌ {A = Result A E} (Err x) (ok_or r k) → x ≡ k
err-told {A} {E} {r} {x} {k} n e =
    let same : ◌≡◌ {A = Result A E} (Err x) (Err k) = rw n at e in
    cc

-- ---- whether anything is left
pub some-left : (n : ℕ) → false ≡ (n == 0) → 0 < n
some-left zero e = absurd (false≢true e)
some-left (suc n) e = omega arith

pub none-left : (n : ℕ) → true ≡ (n == 0) → n ≡ 0
none-left n e = eqb-true n 0 (sym e)

pub is-told : {A : Type 0} (r : Option A) {test : Bool} (Q : A → Type 0) → MatchOption r (test ≡ false) Q → test ≡ true
    → IsSome r
is-told None Q e f = absurd (false≢true (sym e ∙ f))
is-told (Some x) Q e f = refl

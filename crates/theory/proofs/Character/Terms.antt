-- Laws of terms, and the three cases of sink.
--   Holds P t   P holds of what t holds, if it holds anything
use Rattle.std.specs.Prelude.{◌≡◌, refl, ◌∷◌, ◌+ℤ◌, ◌-ℤ◌}
use Rattle.std.proofs.Common.{sym, ap}
use Rattle.std.proofs.Math.IntN.{neg_ℤ-neg_ℤ}
use Rattle.theory.specs.Basics.{List, ℕ, zero, suc, ℤ, pos, negsuc, neg_ℤ}
use Rattle.theory.specs.Character.{Term, nothing, plus, minus, turn, then, before, value, sink}

module _ {A : Type 0} where
  turn-turn : (t : Term A) → turn (turn t) ≡ t
  turn-turn nothing = refl
  turn-turn (plus x) = refl
  turn-turn (minus x) = refl

  -- ---- what a term counts
  pub value-turn : (f : A → ℤ) (t : Term A) → value f (turn t) ≡ neg_ℤ (value f t)
  value-turn f nothing = refl
  value-turn f (plus x) = refl
  value-turn f (minus x) = sym (neg_ℤ-neg_ℤ (f x))

  -- ---- what holds of what a term holds
  abbrev pub Holds : (A → Type 0) → Term A → Type 0
  Holds P nothing = Unit {0}
  Holds P (plus x) = P x
  Holds P (minus x) = P x

  pub holds-map : (P Q : A → Type 0) (t : Term A) → ((x : A) → P x → Q x) → Holds P t → Holds Q t
  holds-map P Q nothing e h = tt
  holds-map P Q (plus x) e h = e x h
  holds-map P Q (minus x) e h = e x h

  pub holds-turn : (P : A → Type 0) (t : Term A) → Holds P (turn t) ≡ Holds P t
  holds-turn P nothing = refl
  holds-turn P (plus x) = refl
  holds-turn P (minus x) = refl

  pub value_same : (P : A → Type 0) (f g : A → ℤ) (t : Term A) → ((x : A) → P x → f x ≡ g x) → Holds P t
      → value f t ≡ value g t
  value_same P f g nothing e h = refl
  value_same P f g (plus x) e h = e x h
  value_same P f g (minus x) e h = ap neg_ℤ (e x h)

module _ {A B : Type 0} where
  pub then-turn : (g : A → Term B) (t : Term A) → then g (turn t) ≡ turn (then g t)
  then-turn g nothing = refl
  then-turn g (plus x) = refl
  then-turn g (minus x) = sym (turn-turn (g x))

  pub holds_then : (P : B → Type 0) (g : A → Term B) (t : Term A) → Holds P (then g t) ≡ Holds (λ x. Holds P (g x)) t
  holds_then P g nothing = refl
  holds_then P g (plus x) = refl
  holds_then P g (minus x) = holds-turn P (g x)

pub then-then : {A B C : Type 0} (g : B → Term C) (f : A → Term B) (t : Term A)
    → then g (then f t) ≡ then (λ x. then g (f x)) t
then-then g f nothing = refl
then-then g f (plus x) = refl
then-then g f (minus x) = then-turn g (f x)

-- what holds in each of its three cases holds of sink
pub sink-cases : (P : Term (List ℤ) → Type 0) (a b : ℤ) (bs : List ℤ)
    → ((n : ℕ) → a -ℤ b ≡ pos n → P (plus (a ∷ b ∷ bs)))
    → (a -ℤ b ≡ negsuc 0 → P nothing)
    → ((n : ℕ) → a -ℤ b ≡ negsuc (suc n) → P (turn (before (b -ℤ pos 1) (sink (a +ℤ pos 1) bs))))
    → P (sink a (b ∷ bs))
sink-cases P a b bs stop equal pass = go (a -ℤ b) refl
  where
    go : (z : ℤ) → a -ℤ b ≡ z → P (elim z [
      | pos n ↦ plus (a ∷ b ∷ bs)
      | negsuc zero ↦ nothing
      | negsuc (suc n) ↦ turn (before (b -ℤ pos 1) (sink (a +ℤ pos 1) bs))
    ])
    go (pos n) e = stop n e
    go (negsuc zero) e = equal e
    go (negsuc (suc n)) e = pass n e

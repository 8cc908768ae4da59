-- No second answer and no second run meet one promise (document 01, "What the contracts have to say"), and an answer
-- that tells a number refuses as its checks do.
use Rattle.std.specs.Prelude.{◌≡◌, refl}
use Rattle.std.proofs.Common.{sym, ◌∙◌, ap}
use Rattle.std.proofs.Math.Decide.{ℕ_discrete}
use Rattle.theory.specs.Basics.{List, ℕ, ℤ, pos}
use Rattle.theory.specs.Refusals.{Check, first_of}
use Rattle.theory.proofs.Refusals.Laws.{or-refused, answer-number}
use Rattle.words.specs.Answers.{Outcome, NumberedBy, number_answer, numbered, NumberAnswer}

pub one-outcome : {A B : Type 0} (x : A × B) {r s : A} {p q : B} → Outcome x r p → Outcome x s q → (r ≡ s) × (p ≡ q)
one-outcome x a b = (a.answers ∙ sym b.answers, a.leaves ∙ sym b.leaves)

pub numbered-refusal : (checks : List Check) (z : ℤ) (r : NumberAnswer) → r ≡ numbered checks z
    → r.refused ≡ first_of checks
numbered-refusal checks z =
    answer-number (λ (x : NumberAnswer). x.refused) (λ k. number_answer k (pos 0)) (number_answer 0 z) (λ k. refl) refl
    (first_of checks)

pub number-refusal : {checks : List Check} {P : ℕ → Type 0} {r : NumberAnswer} → NumberedBy checks P r
    → r.refused ≡ first_of checks
number-refusal {checks} {r = r} a = numbered-refusal checks (pos a.number) r a.answers

pub one_number : {checks : List Check} {P : ℕ → Type 0} → ((m n : ℕ) → P m → P n → m ≡ n) → {r s : NumberAnswer}
    → NumberedBy checks P r → NumberedBy checks P s → r ≡ s
one_number {checks} once a b =
    let refuses : (first_of checks ≡ 0 → ⊥) → (z : ℤ) → numbered checks z ≡ number_answer (first_of checks) (pos 0) =
    λ n z. or-refused (λ k. number_answer k (pos 0)) (number_answer 0 z) (first_of checks) n in
    a.answers
    ∙ elim (ℕ_discrete (first_of checks) 0) [
      | yes z ↦ ap (λ (n : ℕ). numbered checks (pos n)) (once _ _ (a.holds z) (b.holds z))
      | no n ↦ refuses n _ ∙ sym (refuses n _)
    ]
    ∙ sym b.answers

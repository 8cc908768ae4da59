-- From what a call finds to the promised answer: one law for each way in which a call answers, for all calls.
--   too_short k xs column   the check, by the number k, of a column that has no room for xs: 14 is one
use Rattle.std.specs.Prelude.{◌∷◌, ◌++◌}
use mathlib.Core.Path.{◌≡◌, refl, sym, ◌∙◌, ap}
use Prim.Native.Nat.{◌≤◌, ◌<◌}
use borrow.Author.Tests.{le-ltb, lt-ltb}
use Rattle.theory.specs.Basics.{List, [], length, ℕ, ℤ, pos, ◌<?◌}
use Rattle.theory.specs.Refusals.{Check, first_of}
use Rattle.theory.specs.Refusals.Laws.{Numbered}
use Rattle.theory.proofs.Refusals.Laws.{or-refused, first-refuses, first_passes}
use Rattle.words.specs.Answers.{Outcome, word_answer, number_answer, count_answer, at_front, CountAnswer}
use Rattle.words.specs.Answers.{worded, numbered, written}

-- ---- words and numbers
module _ (checks : List Check) where
  pub word-refused : (w k : ℕ) → k ≡ first_of checks → (k ≡ 0 → ⊥) → word_answer k 0 ≡ worded checks w
  word-refused w k e n = rw (← e) (sym (or-refused (λ k. word_answer k 0) (word_answer 0 w) k n))

  pub word-given : (w v : ℕ) → first_of checks ≡ 0 → v ≡ w → word_answer 0 v ≡ worded checks w
  word-given w v n e = rw (n, e) refl

  pub number-refused : (z : ℤ) (k : ℕ) → k ≡ first_of checks → (k ≡ 0 → ⊥)
      → number_answer k (pos 0) ≡ numbered checks z
  number-refused z k e n = rw (← e) (sym (or-refused (λ k. number_answer k (pos 0)) (number_answer 0 z) k n))

  pub number-given : (z v : ℤ) → first_of checks ≡ 0 → v ≡ z → number_answer 0 v ≡ numbered checks z
  number-given z v n e = rw (n, e) refl

-- ---- a lent column
abbrev pub too_short : {A : Type 0} → ℕ → List A → List A → Check
too_short k xs column = (length column <? length xs, k)

module _ {A : Type 0} (checks : List Check) (short : ℕ) (xs column : List A) where
  abbrev Answered : CountAnswer → List A → Type 0
  Answered r after = Outcome (written checks (too_short short) xs column) r after

  abbrev number : ℕ
  number = first_of (checks ++ too_short short xs column ∷ [])

  refused-by : (k : ℕ) → number ≡ k → (k ≡ 0 → ⊥) → Answered (count_answer k 0) column
  refused-by k e n =
      let given : CountAnswer × List A = (count_answer 0 (length xs), at_front xs column) in
      rw (e, or-refused {A = CountAnswer × List A} (λ k. (count_answer k 0, column)) given k n)
      (record { answers = refl; leaves = refl })

  pub column-refused : (k : ℕ) → k ≡ first_of checks → (k ≡ 0 → ⊥) → Answered (count_answer k 0) column
  column-refused k e n = refused-by k (first-refuses checks _ (λ z. n (e ∙ z)) ∙ sym e) n

  module _ (numbers : Numbered checks) (none : first_of checks ≡ 0) where
    pub column-short : (short ≡ 0 → ⊥) → length column < length xs → Answered (count_answer short 0) column
    column-short n l =
        refused-by short (first_passes checks _ numbers none ∙ rw (lt-ltb (length column) (length xs) l) refl) n

    pub column-filled : (n : ℕ) (after : List A) → length xs ≤ length column → n ≡ length xs
        → after ≡ at_front xs column → Answered (count_answer 0 n) after
    column-filled n after l en ea =
        let last : number ≡ 0 =
        first_passes checks _ numbers none ∙ rw (le-ltb (length column) (length xs) l) refl in
        rw last (record { answers = ap (count_answer 0) en; leaves = ea })

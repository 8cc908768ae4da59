-- From a promised answer to what its caller learns: the number that refused, and if none did, what was given.
--   FrontGiven xs r after   the answer r refuses nothing and has the count of xs, which stand at the column's front
use Rattle.std.specs.Prelude.{◌∷◌, ◌++◌}
use mathlib.Core.Path.{◌≡◌, refl, ◌∙◌, ap, ap₂}
use Prim.Native.Nat.{◌≤◌}
use native.Mathlib.Decide.{ℕ_discrete}
use native.Mathlib.Omega.{arith}
use lib.ListN.{length-append}
use lib.Seq.{take_at}
use borrow.Author.Tests.{le-ltb}
use Rattle.theory.specs.Basics.{List, [], length, take, ℕ, ℤ, pos}
use Rattle.theory.specs.Refusals.{Check, first_of, refused_or}
use Rattle.theory.specs.Refusals.Laws.{Numbered}
use Rattle.theory.proofs.Refusals.Laws.{answer-number, answer-given, answer-refused}
use Rattle.theory.proofs.Refusals.Laws.{first-refuses, first_passes}
use Rattle.words.specs.Answers.{Outcome, word_answer, number_answer, count_answer, at_front, WordAnswer, NumberAnswer}
use Rattle.words.specs.Answers.{worded, numbered, written, CountAnswer}
use Rattle.words.proofs.Answers.{too_short}

-- ---- words and numbers
module _ (checks : List Check) (w : ℕ) (a : WordAnswer) (e : a ≡ worded checks w) where
  abbrev of_word : WordAnswer → ℕ
  of_word x = x.refused

  abbrev no_word : ℕ → WordAnswer
  no_word k = word_answer k 0

  pub word-given-by : a.refused ≡ 0 → (first_of checks ≡ 0) × (a ≡ word_answer 0 w)
  word-given-by = answer-given of_word no_word (word_answer 0 w) (λ k. refl) refl (first_of checks) a e

  pub word-refused-by : (v : ℕ) → (a.refused ≡ 0 → ⊥) → a ≡ worded checks v
  word-refused-by v =
      answer-refused of_word no_word (word_answer 0 w) (λ k. refl) refl (first_of checks) a e (word_answer 0 v)

module _ (checks : List Check) (z : ℤ) (a : NumberAnswer) (e : a ≡ numbered checks z) where
  abbrev of_number : NumberAnswer → ℕ
  of_number x = x.refused

  abbrev no_number : ℕ → NumberAnswer
  no_number k = number_answer k (pos 0)

  pub number-given-by : a.refused ≡ 0 → (first_of checks ≡ 0) × (a ≡ number_answer 0 z)
  number-given-by = answer-given of_number no_number (number_answer 0 z) (λ k. refl) refl (first_of checks) a e

  pub number-refused-by : (y : ℤ) → (a.refused ≡ 0 → ⊥) → a ≡ numbered checks y
  number-refused-by y =
      answer-refused of_number no_number (number_answer 0 z) (λ k. refl) refl (first_of checks) a e (number_answer 0 y)

-- ---- a column that has room for what is written
pub record FrontGiven {A : Type 0} (xs : List A) (r : CountAnswer) (after : List A) : Type 0 where
  pub none : r.refused ≡ 0
  pub count : r.count ≡ length xs
  pub inside : r.count ≤ length after
  pub front : take r.count after ≡ xs

module _ {A : Type 0} (checks : List Check) (short : ℕ) (xs column : List A) (numbers : Numbered checks)
    (room : first_of checks ≡ 0 → length xs ≤ length column) where
  not_short : first_of (checks ++ too_short short xs column ∷ []) ≡ first_of checks
  not_short = elim (ℕ_discrete (first_of checks) 0) [
    | yes z ↦ first_passes checks _ numbers z ∙ rw (le-ltb (length column) (length xs) (room z), z) refl
    | no n ↦ first-refuses checks _ n
  ]

  module _ (r : CountAnswer) (after : List A) (o : Outcome (written checks (too_short short) xs column) r after) where
    abbrev Answer : Type 0
    Answer = CountAnswer × List A

    abbrev number : Answer → ℕ
    number x = x.0.refused

    abbrev refused : ℕ → Answer
    refused k = (count_answer k 0, column)

    abbrev given : Answer
    given = (count_answer 0 (length xs), at_front xs column)

    is-answer : ◌≡◌ {A = Answer} (r, after) (refused_or (first_of checks) refused given)
    is-answer = rw not_short at (ap₂ {C = Answer} (λ x y. (x, y)) o.answers o.leaves)

    pub column-refusal : r.refused ≡ first_of checks
    column-refusal = answer-number number refused given (λ k. refl) refl (first_of checks) (r, after) is-answer

    pub front-given : first_of checks ≡ 0 → FrontGiven xs r after
    front-given n =
        let answer = answer-given number refused given (λ k. refl) refl (first_of checks) (r, after) is-answer in
        let e = (answer (column-refusal ∙ n)).1 in
        let count = ap (λ (x : Answer). x.0.count) e in
        let whole = ap (λ (x : Answer). x.1) e in
        record {
          none = ap (λ (x : Answer). x.0.refused) e;
          count = count;
          inside = rw (count, whole, length-append) (omega arith);
          front = ap₂ (λ (k : ℕ) (l : List A). take k l) count whole ∙ take_at xs _ (length xs) refl;
        }

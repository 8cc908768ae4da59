-- The answers of the calls (document 01, "Order": a refused number or word is 0; "Part list"; "What the contracts have
-- to say").
--   Outcome x answer run            a call that is promised the pair x gives this answer and leaves its lent run so
--   WordAnswer .. ShapeReading       the answers: the number that refuses, 0 for none, and what is given
--   word_answer .. reading           the answers, by their fields
--   told answer none r              the answer of a call that gives r: 0 beside what it gives, or the number of the
--                                   refusal beside `none`; word_told .. shape_told, that of each kind
--   refusal_of r                    the number of the refusal, 0 where something is given
--   worded checks w                 the word w, or the number that refuses beside 0; numbered checks z, the number z
--   NumberedBy checks P answer      the answer gives a number of which P holds, or the number that refuses beside 0
--   at_front xs column               xs at the front of a lent column, the rest of it stays
--   written checks last xs column   xs at the front of a lent column, and their count; `last`, of both, is asked last
use Rattle.std.specs.Prelude.{◌≡◌, ◌∷◌, ◌++◌}
use Rattle.theory.specs.Basics.{List, [], length, drop, ℕ, ℤ, pos}
use Rattle.theory.specs.Refusals.{Check, first_of, refused_or}
pub use Rattle.std.specs.declared.result.Result.{Result}
pub use Rattle.std.specs.declared.result.Result.TheVariants.{Ok, Err}
pub use Rattle.words.specs.declared.Good.{Good}
pub use Rattle.words.specs.declared.Shape.{Shape}
pub use Rattle.words.specs.declared.refusal.Refusal.{Refusal}
use Rattle.words.specs.declared.refusal.Refusal.TheVariants.{BadShape, ShapeTooLarge, BadClass, ClassTooLarge, DegreesDiffer, PageTooLong}
use Rattle.words.specs.declared.refusal.Refusal.TheVariants.{NotSound, NoSuchLine, NoSuchCycle, PageFull, NoSuchRank, DegreeTooLarge, BadInput}
use Rattle.words.specs.declared.refusal.Refusal.TheVariants.{ColumnTooShort, NoSuchKind, BadText, BufferTooShort, StripTooShort}
use Rattle.words.specs.declared.refusal.Refusal.TheVariants.{NotThatPreview, BadLengths, BadCoefficients}
pub mod Laws

-- ---- the number of each refusal
abbrev pub number_of : Refusal → ℕ
number_of BadShape = 1
number_of ShapeTooLarge = 2
number_of BadClass = 3
number_of ClassTooLarge = 4
number_of DegreesDiffer = 5
number_of PageTooLong = 6
number_of NotSound = 7
number_of NoSuchLine = 8
number_of NoSuchCycle = 9
number_of PageFull = 10
number_of NoSuchRank = 11
number_of DegreeTooLarge = 12
number_of BadInput = 13
number_of ColumnTooShort = 14
number_of NoSuchKind = 15
number_of BadText = 16
number_of BufferTooShort = 17
number_of StripTooShort = 18
number_of NotThatPreview = 19
number_of BadLengths = 20
number_of BadCoefficients = 21

pub record Outcome {A B : Type 0} (x : A × B) (answer : A) (run : B) : Type 0 where
  pub answers : answer ≡ x.0
  pub leaves : run ≡ x.1

-- ---- the answers
pub record WordAnswer : Type 0 where
  pub refused : ℕ
  pub word : ℕ

pub record NumberAnswer : Type 0 where
  pub refused : ℕ
  pub number : ℤ

pub record CountAnswer : Type 0 where
  pub refused : ℕ
  pub count : ℕ

pub record GoodAnswer : Type 0 where
  pub refused : ℕ
  pub word : ℕ
  pub dropped : ℕ

pub record ShapeReading : Type 0 where
  pub refused : ℕ
  pub word : ℕ
  pub dropped : ℕ
  pub degree : ℕ

abbrev pub word_answer : ℕ → ℕ → WordAnswer
word_answer k w = record { refused = k; word = w }

abbrev pub number_answer : ℕ → ℤ → NumberAnswer
number_answer k z = record { refused = k; number = z }

abbrev pub count_answer : ℕ → ℕ → CountAnswer
count_answer k n = record { refused = k; count = n }

abbrev pub good_answer : ℕ → ℕ → ℕ → GoodAnswer
good_answer k w n = record { refused = k; word = w; dropped = n }

abbrev pub reading : ℕ → ℕ → ℕ → ℕ → ShapeReading
reading k w n d = record { refused = k; word = w; dropped = n; degree = d }

-- ---- what a call tells
abbrev pub told : {A B : Type 0} → (ℕ → A → B) → A → Result A Refusal → B
told answer none (Ok x) = answer 0 x
told answer none (Err e) = answer (number_of e) none

abbrev pub word_told : Result ℕ Refusal → WordAnswer
word_told = told word_answer 0

abbrev pub number_told : Result ℤ Refusal → NumberAnswer
number_told = told number_answer (pos 0)

abbrev pub degree_told : Result ℕ Refusal → NumberAnswer
degree_told = told (λ k n. number_answer k (pos n)) 0

abbrev pub count_told : Result ℕ Refusal → CountAnswer
count_told = told count_answer 0

abbrev pub good_told : Result Good Refusal → GoodAnswer
good_told = told (λ k g. good_answer k g.word g.dropped) (record { word = 0; dropped = 0 })

abbrev pub shape_told : Result Shape Refusal → ShapeReading
shape_told = told (λ k s. reading k s.word s.dropped s.degree) (record { word = 0; dropped = 0; degree = 0 })

abbrev pub refusal_of : {A : Type 0} → Result A Refusal → ℕ
refusal_of (Ok x) = 0
refusal_of (Err e) = number_of e

-- ---- what is promised
abbrev pub worded : List Check → ℕ → WordAnswer
worded checks w = refused_or (first_of checks) (λ k. word_answer k 0) (word_answer 0 w)

abbrev pub numbered : List Check → ℤ → NumberAnswer
numbered checks z = refused_or (first_of checks) (λ k. number_answer k (pos 0)) (number_answer 0 z)

pub record NumberedBy (checks : List Check) (P : ℕ → Type 0) (answer : NumberAnswer) : Type 0 where
  pub number : ℕ
  pub holds : first_of checks ≡ 0 → P number
  pub answers : answer ≡ numbered checks (pos number)

abbrev pub at_front : {A : Type 0} → List A → List A → List A
at_front xs column = xs ++ drop (length xs) column

abbrev pub written : {A : Type 0} → List Check → (List A → List A → Check) → List A → List A → CountAnswer × List A
written checks last xs column =
    refused_or (first_of (checks ++ last xs column ∷ [])) (λ k. (count_answer k 0, column))
    (count_answer 0 (length xs), at_front xs column)

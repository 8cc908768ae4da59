-- What the calls of the listing promise (document 01, "Listing", "Order").
-- Each has the name of what it gives; `_at` is of a degree n and a rank r. The limit on degrees comes first.
--   words_within limit     the words of all shapes within the limit, degree by degree, each degree in listing order
--   section_told r         what is told of a call that gives r: the section, or the refusal's number beside 0 and 0
--   section_of limit n     where the words of degree n start among them, and how many they are
--   rank_checks limit n r  the checks of a degree n and a rank r
use Rattle.std.specs.Prelude.{◌∷◌}
use Rattle.theory.specs.Basics.{[], get_or, List, length, ℕ, suc, pos}
use Rattle.theory.specs.ShapeWord.{shape_word, shape_of}
use Rattle.theory.specs.ClassWord.{class_word, class_of}
use Rattle.theory.specs.Listing.{listing, rank, words_below, start}
use Rattle.theory.specs.Refusals.{Check, first_of, refused_or, shape_checks, class_checks, no-11, no-12}
use Rattle.std.specs.declared.result.Result.{Result}
use Rattle.words.specs.declared.refusal.Refusal.{Refusal}
use Rattle.words.specs.Answers.{told, worded, numbered, WordAnswer, NumberAnswer}
use Rattle.listing.specs.declared.Span.{Span}
pub mod Laws

pub record SectionAnswer : Type 0 where
  pub refused : ℕ
  pub start : ℕ
  pub count : ℕ

abbrev pub section_answer : ℕ → ℕ → ℕ → SectionAnswer
section_answer k start count = record { refused = k; start = start; count = count }

abbrev pub section_told : Result Span Refusal → SectionAnswer
section_told = told (λ k s. section_answer k s.start s.count) (record { start = 0; count = 0 })

module _ (limit : ℕ) where
  abbrev pub words_within : List ℕ
  words_within = words_below (suc limit)

  unfoldable pub section_of : ℕ → SectionAnswer
  section_of n =
      refused_or (first_of (no-12 limit n ∷ [])) (λ k. section_answer k 0 0)
      (section_answer 0 (start n) (length (listing n)))

  abbrev pub rank_checks : ℕ → ℕ → List Check
  rank_checks n r = no-12 limit n ∷ no-11 r (listing n) ∷ []

  unfoldable pub shape_at : ℕ → ℕ → WordAnswer
  shape_at n r = worded (rank_checks n r) (shape_word (get_or (listing n) r []))

  unfoldable pub class_at : ℕ → ℕ → WordAnswer
  class_at n r = worded (rank_checks n r) (class_word (get_or (listing n) r []))

  unfoldable pub shape_rank : ℕ → NumberAnswer
  shape_rank w = numbered (shape_checks limit w) (pos (rank (shape_of w)))

  unfoldable pub class_rank : ℕ → NumberAnswer
  class_rank w = numbered (class_checks limit w) (pos (rank (class_of w)))

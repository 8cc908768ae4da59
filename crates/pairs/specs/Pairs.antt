-- What a shape word and a class word have in common (document 01, "Order"; document 02, P6).
--   common_degree k w n       the answer that refuses with the number k, or for 0 gives the good word w and the degree n
--   common_told r             what is told of a call that gives r: the answer, by its number
--   degree_of_both limit s c   refused by a check, in the order 1, 3, 2, 4, 5, or the good word of the shape and the one
--                            degree of both
use Rattle.theory.specs.Basics.{ℕ}
use Rattle.theory.specs.Partition.{degree}
use Rattle.theory.specs.ShapeWord.{shape_of, good_word}
use Rattle.theory.specs.Refusals.{first_of, refused_or, pair_checks}
use Rattle.std.specs.declared.result.Result.{Result}
use Rattle.words.specs.declared.refusal.Refusal.{Refusal}
use Rattle.words.specs.Answers.{told}
use Rattle.pairs.specs.declared.Common.{Common}
pub mod Laws

pub record CommonDegree : Type 0 where
  pub refused : ℕ
  pub shape : ℕ
  pub degree : ℕ

abbrev pub common_degree : ℕ → ℕ → ℕ → CommonDegree
common_degree k w n = record { refused = k; shape = w; degree = n }

abbrev pub common_told : Result Common Refusal → CommonDegree
common_told = told (λ k c. common_degree k c.shape c.degree) (record { shape = 0; degree = 0 })

unfoldable pub degree_of_both : ℕ → ℕ → ℕ → CommonDegree
degree_of_both limit s c =
    refused_or (first_of (pair_checks limit s c)) (λ k. common_degree k 0 0)
    (common_degree 0 (good_word s) (degree (shape_of s)))

-- A list of words moves to another form (document 02, P5: "Lists lie in lent runs of 32-bit words, one read and one
-- written"; "A bad entry refuses the list, with the index of the first, nothing written"; "20 unequal lengths or more
-- than 4,096, before the entries").
--   list_told r                     what is told of a call that gives r: 0 and 0, or the refusal's number and the index
--   first_bad checks i ws           the number that refuses the first word of ws that its checks refuse, and its index,
--                                  where the first word of all has the index i; 0 and 0 if they refuse none
--   judged checks given lent       20, or what refuses the first bad word of the given list
--   moved checks move given lent   the answer, and the lent list: move w in the place of each w given, or as it was
use Rattle.std.specs.Prelude.{⊤, ◌∷◌}
use Rattle.theory.specs.Basics.{List, [], map, ℕ, suc}
use Rattle.theory.specs.Refusals.{Check, first_of, refused_or, no-20}
use Rattle.std.specs.declared.result.Result.{Result}
use Rattle.std.specs.declared.result.Result.TheVariants.{Ok, Err}
use Rattle.words.specs.Answers.{number_of}
use Rattle.oldlists.specs.declared.Rejected.{Rejected}

pub record ListAnswer : Type 0 where
  pub refused : ℕ
  pub index : ℕ

abbrev pub list_answer : ℕ → ℕ → ListAnswer
list_answer k i = record { refused = k; index = i }

abbrev pub list_told : Result ⊤ Rejected → ListAnswer
list_told (Ok x) = list_answer 0 0
list_told (Err e) = list_answer (number_of e.refusal) e.index

module _ (checks : ℕ → List Check) where
  abbrev pub first_bad : ℕ → List ℕ → ListAnswer
  first_bad i [] = list_answer 0 0
  first_bad i (w ∷ ws) = refused_or (first_of (checks w)) (λ k. list_answer k i) (first_bad (suc i) ws)

  abbrev pub judged : List ℕ → List ℕ → ListAnswer
  judged given lent =
      refused_or (first_of (no-20 given lent ∷ [])) (λ k. list_answer k 0) (first_bad 0 given)

  abbrev pub moved : (ℕ → ℕ) → List ℕ → List ℕ → ListAnswer × List ℕ
  moved move given lent =
      (judged given lent, refused_or (judged given lent).refused (λ k. lent) (map move given))

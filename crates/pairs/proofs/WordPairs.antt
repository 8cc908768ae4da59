-- From what is read of a shape word and the degree of a class word to their common degree (document 01, "Order").
--   in_order a b rest      the number for both, where the shape's checks give a, the class's b, and `rest` is last
--   Asked limit s c a b   a is what the reader of the shape word s gives, and b the degree of the class word c
--   Pair limit s c j      what is told of the common degree j that the words s and c were given
use Rattle.std.specs.Prelude.{◌∷◌}
use mathlib.Core.Path.{◌≡◌, refl, sym, ◌∙◌, ap}
use borrow.Author.Tests.{eq-eqb, ne_eqb}
use Rattle.theory.specs.Basics.{Bool, true, false, cond, [], ℕ, ◌=?◌, nat_abs}
use Rattle.theory.specs.Partition.{degree}
use Rattle.theory.specs.ShapeWord.{shape_of, good_word}
use Rattle.theory.proofs.ShapeWord.InFront.{dropped-shape}
use Rattle.theory.specs.ClassWord.{class_of}
use Rattle.theory.specs.Refusals.{first_of, shape_checks, class_checks, pair_checks, no-1, no-2, no-3, no-4, no-5}
use Rattle.theory.specs.Refusals.Laws.{Matched}
use Rattle.theory.proofs.Refusals.Laws.{or-given, answer-number, matched}
use Rattle.words.specs.Answers.Laws.{numbered-refusal}
use Rattle.std.specs.declared.result.Result.{Result}
use Rattle.std.specs.declared.result.Result.TheVariants.{Ok, Err}
use Rattle.words.specs.declared.refusal.Refusal.{Refusal}
use Rattle.words.specs.declared.Shape.{Shape}
use Rattle.words.specs.Answers.{NumberAnswer, number_of, refusal_of, shape_told, degree_told}
use Rattle.words.proofs.Told.{refuses, told-once, shape-told-number, degree-told-number}
use Rattle.words.specs.Calls.{shape_reading, class_degree}
use Rattle.words.proofs.Callers.{number-given-by}
use Rattle.words.proofs.Readings.{ShapeRead, reading-number, shape-read}
use Rattle.pairs.specs.declared.Common.{Common}
use Rattle.pairs.specs.Pairs.{CommonDegree, common_degree, common_told, degree_of_both}

-- ---- the order of the checks
abbrev in_order : ℕ → ℕ → ℕ → ℕ
in_order a b rest = cond (a =? 1) 1 (cond (b =? 3) 3 (cond (a =? 0) (cond (b =? 0) rest 4) 2))

in_order_lem : (no1 no2 no3 no4 : Bool) (rest : ℕ) → cond no1 1 (cond no3 3 (cond no2 2 (cond no4 4 rest)))
    ≡ in_order (cond no1 1 (cond no2 2 0)) (cond no3 3 (cond no4 4 0)) rest
in_order_lem true no2 no3 no4 rest = refl
in_order_lem false true true no4 rest = refl
in_order_lem false false true no4 rest = refl
in_order_lem false true false true rest = refl
in_order_lem false true false false rest = refl
in_order_lem false false false true rest = refl
in_order_lem false false false false rest = refl

-- ---- the common degree
pub record Asked (limit s c : ℕ) (a : Result Shape Refusal) (b : Result ℕ Refusal) : Type 0 where
  pub of-shape : shape_told a ≡ shape_reading limit s
  pub of-class : degree_told b ≡ class_degree limit c

-- the second of two numbers, where it is neither the first nor none
other_number : {j k : ℕ} (no-j no-k : Bool) → (cond no-j j (cond no-k k 0) ≡ j → ⊥)
    → (cond no-j j (cond no-k k 0) ≡ 0 → ⊥) → cond no-j j (cond no-k k 0) ≡ k
other_number true no-k m n = absurd (m refl)
other_number false true m n = refl
other_number false false m n = absurd (n refl)

module _ {limit s c : ℕ} {a : Result Shape Refusal} {b : Result ℕ Refusal} (asked : Asked limit s c a b) where
  abbrev Answers : ℕ → ℕ → ℕ → Type 0
  Answers k w n = common_degree k w n ≡ degree_of_both limit s c

  by-shape : refusal_of a ≡ first_of (shape_checks limit s)
  by-shape = sym (shape-told-number a) ∙ reading-number limit s _ asked.of-shape

  by-class : refusal_of b ≡ first_of (class_checks limit c)
  unfolding class_degree
  by-class = sym (degree-told-number b) ∙ numbered-refusal (class_checks limit c) _ _ asked.of-class

  order : first_of (pair_checks limit s c)
      ≡ in_order (refusal_of a) (refusal_of b) (first_of (no-5 (shape_of s) (class_of c) ∷ []))
  order =
      rw (by-shape, by-class)
      (in_order_lem (no-1 s).0 (no-2 limit (shape_of s)).0 (no-3 c).0 (no-4 limit (class_of c)).0 _)

  pub refused-1 : refusal_of a ≡ 1 → Answers 1 0 0
  unfolding degree_of_both
  refused-1 is-1 = rw (order, is-1)

  pub refused-3 : (refusal_of a ≡ 1 → ⊥) → refusal_of b ≡ 3 → Answers 3 0 0
  unfolding degree_of_both
  refused-3 not-1 is-3 = rw (order, ne_eqb _ 1 not-1, is-3)

  module _ (not-1 : refusal_of a ≡ 1 → ⊥) (not-3 : refusal_of b ≡ 3 → ⊥) where
    pub refused-2 : (refusal_of a ≡ 0 → ⊥) → Answers 2 0 0
    unfolding degree_of_both
    refused-2 some =
        let two : refusal_of a ≡ 2 =
        by-shape
        ∙ other_number (no-1 s).0 (no-2 limit (shape_of s)).0 (λ z. not-1 (by-shape ∙ z)) (λ z. some (by-shape ∙ z)) in
        rw (order, two, ne_eqb _ 3 not-3)

    module _ {x : Shape} (passes : a ≡ Ok x) where
      pub refused-class : {e : Refusal} → b ≡ Err e → Answers (number_of e) 0 0
      unfolding degree_of_both
      refused-class {e} was =
          let is : number_of e ≡ refusal_of b = sym (ap refusal_of was) in
          let some : refusal_of b ≡ 0 → ⊥ = λ z. refuses e (is ∙ z) in
          let four : refusal_of b ≡ 4 =
          by-class
          ∙ other_number (no-3 c).0 (no-4 limit (class_of c)).0 (λ z. not-3 (by-class ∙ z)) (λ z. some (by-class ∙ z)) in
          let none : refusal_of a ≡ 0 = ap refusal_of passes in
          rw (is, order, none, ne_eqb _ 3 not-3, ne_eqb _ 0 some, four)

  module _ {x : Shape} {d : ℕ} (passes : a ≡ Ok x) (passes-too : b ≡ Ok d) where
    none : refusal_of a ≡ 0
    none = ap refusal_of passes

    none-too : refusal_of b ≡ 0
    none-too = ap refusal_of passes-too

    of_one : ShapeRead limit s (shape_told (Ok x))
    of_one = shape-read limit s _ (sym (ap shape_told passes) ∙ asked.of-shape) refl

    of_other : d ≡ degree (class_of c)
    unfolding class_degree
    of_other =
        let told = sym (ap degree_told passes-too) ∙ asked.of-class in
        ap (λ (x : NumberAnswer). nat_abs x.number) (number-given-by (class_checks limit c) _ (degree_told (Ok d)) told refl).1

    pub refused-5 : (x.degree ≡ d → ⊥) → Answers 5 0 0
    unfolding degree_of_both
    refused-5 n =
        let differ = ne_eqb (degree (shape_of s)) (degree (class_of c)) (rw (of_one.degree, of_other) at n) in
        rw (order, none, none-too, differ)

    pub agrees : x.degree ≡ d → Answers 0 x.word x.degree
    unfolding degree_of_both
    agrees e =
        let same = eq-eqb (degree (shape_of s)) (degree (class_of c)) (rw (of_one.degree, of_other) at e) in
        rw (order, none, none-too, same, of_one.word, of_one.degree)

-- ---- what a common degree tells
pub record Pair (limit s c : ℕ) (j : Common) : Type 0 where
  pub none : first_of (pair_checks limit s c) ≡ 0
  pub shape : j.shape ≡ good_word s
  pub its_shape : shape_of j.shape ≡ shape_of s
  pub degree : j.degree ≡ degree (shape_of s)
  pub words : Matched limit j.shape c

module _ (limit s c : ℕ) where
  abbrev refused : ℕ → CommonDegree
  refused k = common_degree k 0 0

  abbrev given : CommonDegree
  given = common_degree 0 (good_word s) (degree (shape_of s))

  pub pair-refused : (r : Result Common Refusal) → common_told r ≡ degree_of_both limit s c
      → refusal_of r ≡ first_of (pair_checks limit s c)
  unfolding degree_of_both
  pair-refused (Ok j) e =
      answer-number (λ (x : CommonDegree). x.refused) refused given (λ k. refl) refl (first_of (pair_checks limit s c)) _ e
  pair-refused (Err d) e =
      answer-number (λ (x : CommonDegree). x.refused) refused given (λ k. refl) refl (first_of (pair_checks limit s c)) _ e

  pub pair-passed : {j : Common} → common_told (Ok j) ≡ degree_of_both limit s c → Pair limit s c j
  unfolding degree_of_both
  pair-passed {j} e =
      let none = sym (pair-refused (Ok j) e) in
      let is = e ∙ or-given (λ k. common_degree k 0 0) _ _ none in
      let shape : j.shape ≡ good_word s = ap (λ (x : CommonDegree). x.shape) is in
      record {
        none = none;
        shape = shape;
        its_shape = ap shape_of shape ∙ dropped-shape s;
        degree = ap (λ (x : CommonDegree). x.degree) is;
        words = rw shape (matched limit s c none);
      }

  pub common-told-once : {r t : Result Common Refusal} → common_told r ≡ common_told t → r ≡ t
  common-told-once {r} {t} =
      told-once (λ k (j : Common). common_degree k j.shape j.degree) (record { shape = 0; degree = 0 })
      (λ (x : CommonDegree). x.refused) (λ (x : CommonDegree). record { shape = x.shape; degree = x.degree })
      (λ k x. refl) (λ k x. refl) r t

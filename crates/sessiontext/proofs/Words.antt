-- From what the calls on a word within the limit answer to its parts and its degree.
use Rattle.std.specs.Prelude.{◌^◌}
use mathlib.Core.Path.{◌≡◌, refl, sym, ◌∙◌, ap}
use Prim.Native.Nat.{◌≤◌}
use native.Mathlib.Omega.{arith}
use mir.Syntax.{w64}
use mir.Val.{SFits}
use borrow.Author.Rules.{sfits_of}
use borrow.Author.Tests.{ltb-true}
use Rattle.theory.specs.Basics.{true, List, ℕ, ℤ, pos, negsuc, nat_abs, length, replicate}
use Rattle.theory.specs.Partition.{degree}
use Rattle.theory.proofs.Partition.Laws.{length-degree}
use Rattle.theory.specs.Digits.{digits, width}
use Rattle.theory.specs.ShapeWord.{shape_of}
use Rattle.theory.proofs.ShapeWord.Laws.{rows-partition}
use Rattle.theory.specs.ClassWord.{class_of}
use Rattle.theory.specs.Limits.{degree_limit}
use Rattle.theory.specs.Refusals.{shape_checks, class_checks}
use Rattle.theory.specs.Refusals.Laws.{Within, WithinClass}
use Rattle.theory.proofs.Refusals.Laws.{shape-passes, class-passes}
use Rattle.std.specs.Prelude.{IsOk}
use Rattle.std.specs.declared.result.Result.{Result}
use Rattle.std.specs.declared.result.Result.TheVariants.{Ok}
use Rattle.words.specs.declared.refusal.Refusal.{Refusal}
use Rattle.words.specs.Answers.{Outcome, NumberAnswer, number_answer, count_answer, count_told, degree_told}
use Rattle.words.proofs.Told.{ok-where, count-told-number, degree-told-number}
use Rattle.words.specs.Calls.{shape_parts_into, class_parts_into, shape_degree}
use Rattle.sessiontext.specs.SessionText.{held}
use Rattle.words.proofs.Callers.{FrontGiven, column-refusal, front-given}

module _ {w : ℕ} (s : Within degree_limit w) where
  shape-short : length (shape_of w) ≤ 16
  shape-short = omega (arith, s.small, length-degree (shape_of w) (rows-partition (digits width w)))

  module _ (r : Result ℕ Refusal) {parts : List ℕ}
      (o : Outcome (shape_parts_into degree_limit w (replicate 16 0)) (count_told r) parts) where
    pub rows-given : IsOk r
    unfolding shape_parts_into
    rows-given =
        ok-where r
        (sym (count-told-number r)
        ∙ column-refusal (shape_checks degree_limit w) 14 (shape_of w) (replicate 16 0) refl (λ z. shape-short) (count_told r) parts o
        ∙ shape-passes s)

    pub shape-parts : {k : ℕ} → r ≡ Ok k → FrontGiven (shape_of w) (count_answer 0 k) parts
    unfolding shape_parts_into
    shape-parts is =
        rw is at
        (front-given (shape_checks degree_limit w) 14 (shape_of w) (replicate 16 0) refl (λ z. shape-short) (count_told r) parts o
        (shape-passes s))

  module _ (r : Result ℕ Refusal) (e : degree_told r ≡ shape_degree degree_limit w) where
    told : degree_told r ≡ number_answer 0 (pos (degree (shape_of w)))
    unfolding shape_degree
    told = e ∙ rw (shape-passes s) refl

    pub degree-given : IsOk r
    degree-given = ok-where r (sym (degree-told-number r) ∙ ap (λ (x : NumberAnswer). x.refused) told)

    pub shape-degree : {d : ℕ} → r ≡ Ok d → d ≡ degree (shape_of w)
    shape-degree is = ap (λ (x : NumberAnswer). nat_abs x.number) (sym (ap degree_told is) ∙ told)

module _ {w : ℕ} (c : WithinClass degree_limit w) where
  class-short : length (class_of w) ≤ 16
  class-short = omega (arith, c.small, length-degree (class_of w) c.good.partition)

  module _ (r : Result ℕ Refusal) {parts : List ℕ}
      (o : Outcome (class_parts_into degree_limit w (replicate 16 0)) (count_told r) parts) where
    pub cycles-given : IsOk r
    unfolding class_parts_into
    cycles-given =
        ok-where r
        (sym (count-told-number r)
        ∙ column-refusal (class_checks degree_limit w) 14 (class_of w) (replicate 16 0) refl (λ z. class-short) (count_told r) parts o
        ∙ class-passes c)

    pub class-parts : {k : ℕ} → r ≡ Ok k → FrontGiven (class_of w) (count_answer 0 k) parts
    unfolding class_parts_into
    class-parts is =
        rw is at
        (front-given (class_checks degree_limit w) 14 (class_of w) (replicate 16 0) refl (λ z. class-short) (count_told r) parts o
        (class-passes c))

-- ---- numbers
pub held_fits : (z : ℤ) → held z ≡ true → SFits w64 z
held_fits (pos n) h = sfits_of (ltb-true n (2 ^ 63) h)
held_fits (negsuc n) h = record { sfits = ltb-true n (2 ^ 63) h }

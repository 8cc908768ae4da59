-- The class word of (1^n) is known by its last one: added once more, it carries through all the ones before it. On that
-- class the quotient is the character.
--   OnesTold w z one   z zeros are behind the last one of the class word w, and it counts `one`: it tells if w is such
use Rattle.std.specs.Prelude.{◌+◌, ◌-◌, ◌*◌, ◌%◌, ◌^◌}
use mathlib.Core.Path.{◌≡◌, sym, ◌∙◌, ap}
use Prim.Native.Nat.{◌≤◌, ◌<◌}
use native.Mathlib.Decide.{ℕ_discrete}
use native.Mathlib.Omega.{arith}
use lib.Count.{count_trailing_zeros}
use lib.Pow.{pow_mono}
use borrow.Author.Tests.{eq-eqb, ne_eqb, eqb-true}
use Rattle.theory.specs.Basics.{true, ℕ, ◌=?◌, replicate}
use Rattle.theory.specs.Partition.{Parts, degree}
use Rattle.theory.specs.Digits.{width}
use Rattle.theory.proofs.Digits.Laws.{one_shifted}
use Rattle.theory.specs.ShapeWord.{shape_of}
use Rattle.theory.specs.ClassWord.{class_of, class_word}
use Rattle.theory.proofs.ClassWord.Laws.{class-of-word}
use Rattle.theory.proofs.ClassWord.Reading.{degree-told}
use Rattle.theory.proofs.ClassWord.Identity.{ones-held, ones-word}
use Rattle.theory.specs.Character.{◌on◌, character_degree}
use Rattle.theory.specs.Bounds.Laws.{largest_limit}
use Rattle.pages.proofs.Signed.{carried}
use Rattle.characters.specs.Private.Evaluation.{Evaluable}
use Rattle.characters.specs.Private.SmallTables.{table_limit}
use Rattle.characters.proofs.Walks.{shape-within, character-carried}

pub record OnesTold (w z one : ℕ) : Type 0 where
  pub bits : z < 32
  pub fits : w + one < 2 ^ 32
  pub tells : (w + one =? 2 ^ 31) ≡ (w =? class_word (replicate (degree (class_of w)) 1))

pub ones-told : (w : ℕ) → 0 < degree (class_of w) → w < 2 ^ width
    → OnesTold w (count_trailing_zeros 32 w) (1 * 2 ^ count_trailing_zeros 32 w % 2 ^ 32)
ones-told w some below =
    let z : ℕ = count_trailing_zeros 32 w in
    let n : ℕ = degree (class_of w) in
    let told = degree-told width w below in
    let place : width - n ≡ z = omega arith in
    let ones = rw place at (ones-word n (omega arith)) in
    let short : z ≤ 31 = omega arith in
    let low : 2 ^ z ≤ 2 ^ 31 = pow_mono short in
    rw (one_shifted 32 z (omega arith))
    (record {
      bits = omega arith;
      fits = omega arith;
      tells = elim (ℕ_discrete w (class_word (replicate n 1))) [
        | yes e ↦ eq-eqb (w + 2 ^ z) (2 ^ 31) (omega (arith, e)) ∙ sym (eq-eqb w (class_word (replicate n 1)) e)
        | no g ↦ ne_eqb (w + 2 ^ z) (2 ^ 31) (λ h. g (omega (arith, h))) ∙ sym (ne_eqb w (class_word (replicate n 1)) g)
      ];
    })

-- ---- the character there is the character degree
on-identity : (s w : ℕ) → (w =? class_word (replicate (degree (class_of w)) 1)) ≡ true → degree (class_of w) ≤ width
    → degree (shape_of s) ≡ degree (class_of w) → character_degree (shape_of s) ≡ shape_of s on class_of w
on-identity s w test room e =
    let n : ℕ = degree (class_of w) in
    let is : class_of w ≡ replicate n 1 = ap class_of (eqb-true w _ test) ∙ class-of-word (ones-held n room) in
    ap (λ (k : ℕ). shape_of s on replicate k 1) e ∙ ap (λ (cs : Parts). shape_of s on cs) (sym is)

-- what the quotient is asked, and what it then answers, of a shape word and a class word that have no table
module _ {s w : ℕ} (below : w < 2 ^ width) (e : Evaluable largest_limit s (class_of w))
    (more : table_limit < degree (class_of w)) where
  pub degree-place : count_trailing_zeros 32 w ≤ 31
  degree-place = omega (arith, degree-told width w below)

  pub quotient-asked : (s < 2 ^ width) × (31 - count_trailing_zeros 32 w ≡ degree (shape_of s))
      × (31 - count_trailing_zeros 32 w ≤ largest_limit)
  quotient-asked =
      let told = degree-told width w below in (
        omega (arith, (shape-within e).good.below),
        omega (arith, told, e.degrees),
        omega (arith, told, e.small),
      )

  pub quotient-answers : (w =? class_word (replicate (degree (class_of w)) 1)) ≡ true
      → carried (character_degree (shape_of s)) ≡ shape_of s on class_of w
  quotient-answers test =
      ap carried (on-identity s w test (omega (arith, e.small)) e.degrees) ∙ character-carried e

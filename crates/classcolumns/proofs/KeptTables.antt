-- Tables of characters, at places that no two words share: one entry written, and the table of no cycle.
use mathlib.Core.Path.{◌≡◌, refl, sym, ◌∙◌, ap}
use native.Mathlib.Decide.{ℕ_discrete}
use native.Mathlib.Omega.{arith}
use Prim.Native.Nat.{◌≤◌}
use lib.ListN.{set, length-set, length-replicate}
use lib.Seq.{get_or-set_same, get_or-set_other}
use borrow.Author.Tests.{eq-eqb, eqb-true}
use Rattle.theory.specs.Basics.{true, List, [], get_or, replicate, ℕ, zero, suc, ℤ, pos, nat_abs}
use Rattle.theory.specs.Partition.{Parts, degree}
use Rattle.theory.specs.ShapeWord.{shape_of, good_shape}
use Rattle.theory.proofs.ShapeWord.Good.{good-shape}
use Rattle.theory.proofs.ShapeWord.Words.{empty-word}
use Rattle.theory.specs.Bounds.{factorial}
use Rattle.theory.proofs.Bounds.Laws.{factorial-positive}
use Rattle.theory.proofs.Listing.Words.{Ranked}
use Rattle.theory.specs.Refusals.Laws.{Within}
use Rattle.characters.specs.Private.Evaluation.{Evaluable}
use Rattle.classcolumns.specs.Private.Places.{Places}
use Rattle.classcolumns.specs.Private.Columns.{entry, Table, Cycles, Kept}
use Rattle.classcolumns.proofs.PlaceLaws.{Placed}
use Rattle.characters.proofs.Walks.{value_none}

-- ---- words that can be evaluated
pub ranked-evaluable : {limit : ℕ} {cs : Parts} → Cycles limit cs → {i w : ℕ} → Ranked (degree cs) i w
    → Evaluable limit w cs
ranked-evaluable cycles r = record {
  good = r.good;
  no_zero = cycles.no_zero;
  degrees = r.of-degree;
  small = cycles.small;
}

module _ {p : Places} (placed : Placed p) where
  -- ---- one entry
  module _ (table : List ℤ) (w : ℕ) (x : ℤ) (form : Table p table) (good : good_shape w ≡ true) where
    abbrev after : List ℤ
    after = set table (p.place w) x

    pub set_same : entry p after w ≡ x
    set_same = get_or-set_same table (p.place w) x (pos 0) (omega (arith, form.long, placed.below w good))

    pub set_other : (v : ℕ) → (p.place v ≡ p.place w → ⊥) → entry p after v ≡ entry p table v
    set_other v other = get_or-set_other table (p.place w) (p.place v) x (pos 0) other

    pub set-form : Within p.limit w → nat_abs x ≤ factorial (degree (shape_of w)) → Table p after
    set-form own small = record {
      long = length-set table (p.place w) x ∙ form.long;
      bounded = λ v its. elim (ℕ_discrete (p.place v) (p.place w)) [
        | yes same ↦ rw (placed.apart v w its own same, set_same) small
        | no other ↦ rw (set_other v other) (form.bounded v its)
      ];
    }

  -- ---- no cycle
  zeros-form : (n : ℕ) → n ≡ p.count → Table p (replicate n (pos 0))
  zeros-form n e = record {
    long = length-replicate n (pos 0) ∙ e;
    bounded = λ w its. rw (nothing n (p.place w)) (omega arith);
  }
    where
      nothing : (n i : ℕ) → get_or (replicate n (pos 0)) i (pos 0) ≡ pos 0
      nothing zero i = refl
      nothing (suc n) zero = refl
      nothing (suc n) (suc i) = nothing n i

  -- the empty shape has 1 at its place, and nothing else has its degree
  pub kept-empty : (n i : ℕ) → n ≡ p.count → i ≡ p.place 0 → Kept p (set (replicate n (pos 0)) i (pos 1)) []
  kept-empty n i e at =
      let zeros : List ℤ = replicate n (pos 0) in
      let form = zeros-form n e in
      let none = eqb-true (degree (shape_of 0)) 0 (sym (empty-word 0 refl)) in
      let within : Within p.limit 0 = record { good = good-shape 0 refl; small = omega arith } in
      rw at
      (record {
        form = set-form zeros 0 (pos 1) form refl within (factorial-positive (degree (shape_of 0)));
        holds = λ w its.
            let empty : w ≡ 0 = eqb-true w 0
            (empty-word w its.good ∙ eq-eqb (degree (shape_of w)) 0 its.degrees) in
            ap (entry p (set zeros (p.place 0) (pos 1))) empty ∙ set_same zeros 0 (pos 1) form refl
            ∙ sym (value_none its);
      })

-- Laws of the words of degree 0 to 4, which are looked for in the tables, and of the cycles that are left. The ones of
-- such a word stand among its first digits: the number that these make tells its rank, which is tested for all of them.
--   small_unit       2^27: a class word of degree 4 or less is a multiple of it
--   digit_of x k     hexadecimal digit k of the number x, the last one being digit 0
--   class_ranks, shape_ranks   the two constants of the code that have the ranks as such digits
--   class_at k       the class whose first four digits make the number k
--   rank_within k    whether its rank is in the list; ranked_column k, the column of the class of that rank
--   others w z      the class word w without its first cycle z: one shift drops it
--   Struck w z      the first cycle of w, a class word above degree 4, is z
use Rattle.std.specs.Prelude.{◌∷◌, ◌*◌, ◌/◌, ◌%◌, ◌^◌}
use mathlib.Core.Path.{◌≡◌, refl, sym, ◌∙◌, ap, subst}
use Prim.Native.Nat.{◌≤◌, ◌<◌}
use native.Mathlib.Nat.{pos_of_ne-zero}
use native.Mathlib.Decide.{dec_le}
use native.Mathlib.Omega.{arith}
use lib.Count.{count_leading_zeros, count_trailing_zeros, trailing_of_zero}
use borrow.Author.Tests.{ltb-true, eqb-true, le-leb, lt-leb}
use Rattle.theory.specs.Basics.{Bool, true, List, [], map, length, get_or, every, up_from}
use Rattle.theory.specs.Basics.{ℕ, suc, ◌=?◌, ◌<?◌, ◌≤?◌, ℤ}
use Rattle.theory.proofs.Basics.AtPlace.{every-at, every-up, same_up}
use Rattle.theory.specs.Partition.{Parts, degree}
use Rattle.theory.specs.Digits.{digits, word, width}
use Rattle.theory.proofs.Digits.Low.{trailing-multiple}
use Rattle.theory.specs.ShapeWord.{shape_of, good_shape}
use Rattle.theory.specs.ClassWord.{class_of}
use Rattle.theory.proofs.ClassWord.Reading.{class-degree, degree-told, first_part}
use Rattle.theory.specs.Character.{character}
use Rattle.theory.specs.Listing.{listing, partitions, rank, words_below}
use Rattle.theory.proofs.Listing.Words.{index, indexed}
use Rattle.theory.specs.Column.{column}
use Rattle.characters.specs.Private.SmallTables.{table_limit, SmallClass, SameColumn, cycles_left}

-- ---- the zeros behind the last one tell the degree
pub small-told : (w : ℕ) → w < 2 ^ width → 27 ≤? count_trailing_zeros 32 w ≡ degree (class_of w) ≤? table_limit
small-told w h =
    let e = degree-told width w h in
    elim (dec_le 27 (count_trailing_zeros 32 w)) [
      | yes l ↦ le-leb 27 (count_trailing_zeros 32 w) l ∙ sym (le-leb (degree (class_of w)) table_limit (omega arith))
      | no g ↦
          let more : count_trailing_zeros 32 w < 27 = omega arith in
          lt-leb 27 (count_trailing_zeros 32 w) more ∙ sym (lt-leb (degree (class_of w)) table_limit (omega arith))
    ]

-- ---- class words of degree 4 or less
abbrev small_unit : ℕ
small_unit = 2 ^ 27

abbrev digit_of : ℕ → ℕ → ℕ
digit_of number k = number / 2 ^ (k * 4) % 16

abbrev class_ranks : ℕ
class_ranks = 0x4231311031201000

abbrev class_at : ℕ → Parts
class_at k = class_of (k * small_unit)

abbrev rank_within : ℕ → Bool
rank_within k = digit_of class_ranks k <? length (listing (degree (class_at k)))

ranks-within : every rank_within (up_from 0 16) ≡ true
unfolding digits listing partitions
ranks-within = refl

abbrev ranked_column : ℕ → List ℤ
ranked_column k = column (get_or (listing (degree (class_at k))) (digit_of class_ranks k) [])

ranks-same : map ranked_column (up_from 0 16) ≡ map (λ k. column (class_at k)) (up_from 0 16)
unfolding digits listing partitions column character
ranks-same = refl

pub class-ranked : {w : ℕ} → SmallClass w → SameColumn (digit_of class_ranks (w / small_unit)) (class_of w)
class-ranked {w} s =
    let k : ℕ = w / small_unit in
    let few : k < 16 = omega (arith, s.below) in
    let multiple = trailing-multiple width 27 w (omega (arith, s.small, class-degree width w)) in
    let whole : k * small_unit ≡ w = omega arith in
    let ranked : SameColumn (digit_of class_ranks k) (class_at k) = record {
      within = ltb-true (digit_of class_ranks k) _ (every-up 16 k few rank_within ranks-within);
      same = same_up 16 k few ranked_column (λ k. column (class_at k)) [] ranks-same;
    } in
    subst (SameColumn (digit_of class_ranks k)) (ap class_of whole) ranked

-- ---- shape words of degree 4 or less
abbrev shape_ranks : ℕ
shape_ranks = 0x0010013002010240

shapes-ranked : every (λ w. digit_of shape_ranks (w / 2 ^ 26) =? rank (shape_of w)) (words_below (suc table_limit)) ≡ true
unfolding words_below rank digits listing partitions word
shapes-ranked = refl

pub shape-ranked : (w : ℕ) → good_shape w ≡ true → degree (shape_of w) ≤ table_limit
    → digit_of shape_ranks (w / 2 ^ 26) ≡ rank (shape_of w)
shape-ranked w good small =
    let s = indexed (suc table_limit) w good (omega arith) in
    let test : ℕ → Bool = λ w. digit_of shape_ranks (w / 2 ^ 26) =? rank (shape_of w) in
    let e = every-at test (words_below (suc table_limit)) 0 (index w) shapes-ranked s.within in
    eqb-true (digit_of shape_ranks (w / 2 ^ 26)) (rank (shape_of w)) (rw s.at at e)

-- ---- the cycles that are left
pub left-small : (cs : Parts) → degree cs ≤ table_limit → cycles_left cs ≡ cs
left-small [] h = refl
left-small (c ∷ cs) h = rw (le-leb (degree (c ∷ cs)) table_limit h)

pub left-struck : (c : ℕ) (cs : Parts) → table_limit < degree (c ∷ cs) → cycles_left (c ∷ cs) ≡ cycles_left cs
left-struck c cs h = rw (lt-leb (degree (c ∷ cs)) table_limit h)

-- the first cycle of a class word above degree 4 is struck
abbrev pub others : ℕ → ℕ → ℕ
others w z = w * 2 ^ z % 2 ^ suc width % 2 ^ width

pub record Struck (w z : ℕ) : Type 0 where
  pub bits : z < 32
  pub some : 1 ≤ z
  pub below : others w z < 2 ^ width
  pub reads : class_of w ≡ z ∷ class_of (others w z)
  pub left : cycles_left (class_of w) ≡ cycles_left (class_of (others w z))

pub struck-cycle : (w : ℕ) → w < 2 ^ width → table_limit < degree (class_of w) → Struck w (count_leading_zeros 32 w)
struck-cycle w h more =
    let z : ℕ = count_leading_zeros 32 w in
    let none : w ≡ 0 → ⊥ =
    λ e. omega (arith, rw e at more, degree-told width 0 (omega arith), trailing_of_zero 32) in
    let first = first_part width w (pos_of_ne-zero none) h in
    record {
      bits = omega (arith, first.within);
      some = first.some;
      below = omega arith;
      reads = first.reads;
      left = rw first.reads (left-struck z (class_of (others w z)) (rw first.reads at more));
    }

-- Laws of the places, by computed tests where they speak of the numbers themselves.
--   Placed p          the places p serve a limit that has room, are below their count, and no two words have one place
--   told b number k   the b binary digits of the number at the place k
--   TellsIndexes      they tell, at the place of each word within the limit, its index among them
--   index_digits       ten: so many binary digits has an index
--   packed i ws       the number for the words ws, from index i on: each index as ten digits at the word's place
use Rattle.std.specs.Prelude.{◌∷◌, ◌+◌, ◌*◌, ◌/◌, ◌%◌, ◌^◌}
use mathlib.Core.Path.{◌≡◌, refl, sym, ◌∙◌, ap}
use Prim.Native.Nat.{◌≤◌, ◌<◌}
use native.Mathlib.Omega.{arith}
use lib.ListN.{length-map}
use borrow.Author.Tests.{leb-true}
use Rattle.theory.specs.Basics.{true, List, [], map, ℕ, suc, get_or, ◌≤?◌, every, length}
use Rattle.theory.specs.Basics.AtPlace.{tabled}
use Rattle.theory.proofs.Basics.AtPlace.{every-at, map_at, tabled-at}
use Rattle.theory.specs.Digits.{word}
use Rattle.theory.specs.ShapeWord.{good_shape}
use Rattle.theory.proofs.ShapeWord.Good.{good-shape, shape-good}
use Rattle.theory.specs.Listing.{listing, partitions, words_below}
use Rattle.theory.proofs.Listing.Words.{index, Indexed, indexed}
use Rattle.theory.specs.Limits.{degree_limit}
use Rattle.theory.specs.Bounds.Laws.{largest_limit}
use Rattle.theory.specs.Refusals.Laws.{Within}
use Rattle.listing.specs.Calls.{words_within}
use Rattle.classcolumns.specs.Private.Displacements.{displacement_table, largest_displacement}
use Rattle.classcolumns.specs.Private.Places.{Places, eight_digits, place_of, place_count, shape_places}

pub record Placed (p : Places) : Type 0 where
  pub room : p.limit ≤ largest_limit
  pub below : (w : ℕ) → good_shape w ≡ true → p.place w < p.count
  pub apart : (v w : ℕ) → Within p.limit v → Within p.limit w → p.place v ≡ p.place w → v ≡ w

-- ---- places are below their count
pub displacements-length : length displacement_table ≡ eight_digits
unfolding displacement_table
displacements-length = refl

none_above : every (◌≤? largest_displacement) displacement_table ≡ true
unfolding displacement_table
none_above = refl

pub place-below : (t : ℕ) → good_shape t ≡ true → place_of t < place_count
unfolding place_of
place-below t good =
    let high : ℕ = t / 2 ^ 22 in
    let small : high < length displacement_table = omega (arith, (good-shape t good).below, displacements-length) in
    let low = every-at (◌≤? largest_displacement) displacement_table 0 high none_above small in
    omega (arith, leb-true (get_or displacement_table high 0) largest_displacement low)

-- ---- no two shape words have one place: a number tells the index of each from its place
abbrev told : ℕ → ℕ → ℕ → ℕ
told b number k = number / 2 ^ (b * k) % 2 ^ b

module _ (limit b : ℕ) (place : ℕ → ℕ) (number : ℕ) where
  abbrev TellsIndexes : Type 0
  TellsIndexes = tabled (λ i. i) 0 (map (λ w. told b number (place w)) (words_within limit)) ≡ true

  module _ (tells : TellsIndexes) where
    index-told : (w : ℕ) → Indexed (suc limit) w → told b number (place w) ≡ index w
    index-told w s =
        let words : List ℕ = words_within limit in
        let f : ℕ → ℕ = λ w. told b number (place w) in
        ap f (sym s.at) ∙ sym (map_at f words 0 0 (index w) s.within)
        ∙ tabled-at (λ i. i) (map f words) (index w) tells (rw (length-map words f) s.within)

    apart-told : (v w : ℕ) → Within limit v → Within limit w → place v ≡ place w → v ≡ w
    apart-told v w hv hw e =
        let sv = indexed (suc limit) v (shape-good hv.good) (omega (arith, hv.small)) in
        let sw = indexed (suc limit) w (shape-good hw.good) (omega (arith, hw.small)) in
        let same : index v ≡ index w = sym (index-told v sv) ∙ ap (told b number) e ∙ index-told w sw in
        sym sv.at ∙ ap (λ (i : ℕ). get_or (words_within limit) i 0) same ∙ sw.at

-- ---- at document 01's limit
abbrev index_digits : ℕ
index_digits = 10

packed : ℕ → List ℕ → ℕ
packed i [] = 0
packed i (w ∷ ws) = i * 2 ^ (index_digits * place_of w) + packed (suc i) ws

tells-indexes : TellsIndexes degree_limit index_digits place_of (packed 0 (words_within degree_limit))
unfolding words_below listing partitions word displacement_table place_of packed
tells-indexes = refl

pub shapes-placed : Placed shape_places
shapes-placed = record {
  room = omega arith;
  below = place-below;
  apart = apart-told degree_limit index_digits place_of _ tells-indexes;
}

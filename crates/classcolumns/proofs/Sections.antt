-- The words of the shapes of one degree among those of all degrees.
--   Section words n from count   the run of so many words from there on is that of the shapes of degree n
use Rattle.std.specs.Prelude.{◌≡◌, ◌≤◌, ◌<◌, ◌+◌, ◌-◌}
use Rattle.std.proofs.Common.{sym, ◌∙◌, ap, arith, length-drop, length-take, get_or-drop, get_or-take}
use Rattle.std.proofs.lemmas.List.{length-map}
use lib.Seq.{ext_get_or}
use Rattle.theory.specs.Basics.{List, [], map, length, take, drop, get_or, ℕ, suc}
use Rattle.theory.proofs.Basics.AtPlace.{map_at}
use Rattle.theory.specs.ShapeWord.{shape_word}
use Rattle.theory.specs.Listing.{listing, start}
use Rattle.theory.proofs.Listing.Words.{start-next, start-rises, word_at}
use Rattle.listing.specs.Calls.{words_within}

pub record Section (words : List ℕ) (n from count : ℕ) : Type 0 where
  pub inside : from + count ≤ length words
  pub is : take (from + count - from) (drop from words) ≡ map shape_word (listing n)

-- a run of the words of a degree, read at an index
pub word-read : (words : List ℕ) (n i : ℕ) → words ≡ map shape_word (listing n) → i < length words
    → (i < length (listing n)) × (get_or words i 0 ≡ shape_word (get_or (listing n) i []))
word-read words n i same inside =
    let listed : i < length (listing n) = omega (arith, ap length same, length-map (listing n) shape_word) in
    (listed, ap (λ (ws : List ℕ). get_or ws i 0) same ∙ map_at shape_word (listing n) [] 0 i listed)

pub section-words : (words : List ℕ) (limit n from count : ℕ) → n ≤ limit → words ≡ words_within limit → from ≡ start n
    → count ≡ length (listing n) → Section words n from count
section-words words limit n from count small same starts counts =
    let ends = start-rises (suc n) (suc limit) (omega arith) in
    let all : length words ≡ start (suc limit) = ap length same in
    let next = start-next n in
    let run : List ℕ = take (from + count - from) (drop from words) in
    let long : length run ≡ length (listing n) = simp (length-take, length-drop) (omega arith) in
    record {
      inside = omega arith;
      is = ext_get_or 0 run (map shape_word (listing n)) (long ∙ sym (length-map (listing n) shape_word))
          (λ i l.
          let listed : i < length (listing n) = omega arith in
          let within : i < from + count - from = omega arith in
          rw (get_or-take, get_or-drop, same, starts)
          (word_at (suc limit) n i (omega arith) listed ∙ sym (map_at shape_word (listing n) [] 0 i listed)));
    }

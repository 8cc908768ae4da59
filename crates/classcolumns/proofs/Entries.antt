-- What a table has for the shapes of a degree, in listing order; of a kept table it is the column.
--   NextEntry p table n i word   the entry i of degree n is that of the word
use Rattle.std.specs.Prelude.{◌∷◌, ◌+◌}
use mathlib.Core.Path.{◌≡◌, sym, ◌∙◌, ap}
use Prim.Native.Nat.{◌≤◌, ◌<◌}
use native.Mathlib.Numerals.{add-one}
use native.Mathlib.Omega.{arith}
use lib.ListN.{length-map}
use lib.Seq.{drop-cons, ext_get_or}
use Rattle.theory.specs.Basics.{true, List, [], length, get_or, drop, ℕ, ℤ, pos}
use Rattle.theory.proofs.Basics.AtPlace.{map_at}
use Rattle.theory.specs.Partition.{Parts, degree}
use Rattle.theory.specs.ShapeWord.{shape_word, good_shape}
use Rattle.theory.proofs.ShapeWord.Words.{word_back, small-has-room}
use Rattle.theory.specs.Character.{◌on◌}
use Rattle.theory.specs.Listing.{listing}
use Rattle.theory.specs.Column.{column}
use Rattle.theory.proofs.Column.Laws.{column-length, column-at}
use Rattle.theory.proofs.Listing.Ranks.{at-rank}
use Rattle.theory.proofs.Listing.Words.{word-ranked}
use Rattle.theory.specs.Bounds.Laws.{largest_limit}
use Rattle.classcolumns.specs.Private.Places.{Places}
use Rattle.classcolumns.specs.Private.Columns.{entry, entries, Cycles, Kept}
use Rattle.classcolumns.proofs.KeptTables.{ranked-evaluable}

pub record NextEntry (p : Places) (table : List ℤ) (n i word : ℕ) : Type 0 where
  pub good : good_shape word ≡ true
  pub reads : drop i (entries p table n) ≡ entry p table word ∷ drop (i + 1) (entries p table n)

module _ (p : Places) (table : List ℤ) (n : ℕ) where
  pub entries-length : length (entries p table n) ≡ length (listing n)
  unfolding entries
  entries-length = length-map (listing n) _

  module _ (i : ℕ) (listed : i < length (listing n)) where
    entry_at : get_or (entries p table n) i (pos 0) ≡ entry p table (shape_word (get_or (listing n) i []))
    unfolding entries
    entry_at = map_at (λ shape. entry p table (shape_word shape)) (listing n) [] (pos 0) i listed

    pub next-entry : p.limit ≤ largest_limit → n ≤ p.limit → (word : ℕ) → word ≡ shape_word (get_or (listing n) i [])
        → NextEntry p table n i word
    next-entry room small word is =
        let within : i < length (entries p table n) = omega (arith, entries-length) in
        rw is
        (record {
          good = (word-ranked n i (omega arith) listed).good;
          reads = rw (add-one, ← entry_at) (drop-cons (entries p table n) i (pos 0) within);
        })

module _ {p : Places} {table : List ℤ} {cs : Parts} (room : p.limit ≤ largest_limit) (cycles : Cycles p.limit cs)
    (kept : Kept p table cs) where
  same_at : (i : ℕ) → i < length (listing (degree cs))
      → get_or (entries p table (degree cs)) i (pos 0) ≡ get_or (column cs) i (pos 0)
  same_at i listed =
      let n : ℕ = degree cs in
      let small = cycles.small in
      let shape : Parts = get_or (listing n) i [] in
      let r = at-rank n i listed in
      entry_at p table n i listed
      ∙ kept.holds (shape_word shape) (ranked-evaluable cycles (word-ranked n i (omega arith) listed))
      ∙ ap (◌on cs) (word_back shape (small-has-room shape r.partition (omega (arith, r.of-degree))))
      ∙ sym (column-at cs i listed)

  pub entries-column : entries p table (degree cs) ≡ column cs
  entries-column =
      let long = entries-length p table (degree cs) in
      ext_get_or (pos 0) (entries p table (degree cs)) (column cs) (long ∙ sym (column-length cs))
      (λ i l. same_at i (omega arith))

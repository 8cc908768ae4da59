-- The program's text has room: there are at most `most_partitions` classes and as many values to a class, and no value
-- has more than 14 digits, since none exceeds 16! in size. Of the other numbers it is enough that they have at
-- most 20 digits.
--   room             how many bytes the program has
use Rattle.std.specs.Prelude.{◌≡◌, ◌≤◌, ◌<◌, ◌∷◌, ◌++◌, ◌+◌, ◌*◌, ◌^◌}
use Rattle.std.proofs.Math.Path.{refl}
use Rattle.std.proofs.Common.{sym, ◌∙◌, ap, leb-true, ltb-false}
use native.Mathlib.Omega.{arith}
use Rattle.std.proofs.Math.ListN.{length-append}
use Rattle.std.proofs.lemmas.List.{length-map}
use Rattle.theory.specs.Basics.{not, List, [], map, ℕ, zero, suc, ℤ, length, get_or}
use Rattle.theory.specs.Basics.{◌=?◌, ◌≤?◌, joined, Each}
use Rattle.theory.proofs.Basics.Laws.{each_same, each_map, each_member, joined_length}
use Rattle.theory.proofs.Basics.AtPlace.{every-at}
use Rattle.theory.specs.Partition.{Parts}
use Rattle.theory.proofs.Partition.Laws.{no_zero, length-degree}
use Rattle.theory.specs.Character.{◌on◌}
use Rattle.theory.specs.ClassData.{class_size}
use Rattle.theory.specs.Bounds.{factorial}
use Rattle.theory.proofs.Bounds.Laws.{factorial-rises}
use Rattle.theory.proofs.Hooks.Bounds.{character-bounded}
use Rattle.theory.specs.Listing.{listing, partition_counts}
use Rattle.theory.specs.Column.{column}
use Rattle.theory.proofs.Listing.Laws.{count_kept}
use Rattle.theory.specs.Listing.Order.{UpTo}
use Rattle.theory.proofs.Listing.Order.{each-listed}
use Rattle.theory.proofs.Column.Laws.{column-length}
use Rattle.theory.specs.Limits.{degree_limit}
use Rattle.theory.specs.Refusals.{Check, first_of, refused_or, no-12, no-13}
use Rattle.theory.proofs.Refusals.Laws.{none-applies}
use Rattle.listing.specs.Private.Tables.{most_partitions}
use Rattle.text.specs.Text.{Text, ascii, decimal, integer, commas, text_line, field}
use Rattle.text.specs.Text.Decimals.{decimal-most, integer-length}
use Rattle.text.specs.Text.Lists.{commas-length}
use Rattle.tabletext.specs.Table.{class_text, class_lines, table, asked, chartable}

abbrev pub room : ℕ
room = 1048576

-- ---- lines
line-length : (name t : Text) → length (text_line name t) ≡ length name + length t + 1
line-length name t = length-append (name ++ t) (10 ∷ []) ∙ rw length-append refl

number-line : (name : Text) (n : ℕ) → length (text_line name (decimal n)) ≤ length name + 21
number-line name n = omega (arith, line-length name (decimal n), decimal-most n)

-- ---- a class
abbrev Short : ℤ → Type 0
Short z = length (integer z) ≤ 15

module _ (n : ℕ) (h : n ≤ degree_limit) where
  pub listing-few : length (listing n) ≤ most_partitions
  unfolding partition_counts
  listing-few =
      let few = every-at (◌≤? most_partitions) partition_counts 0 n refl (omega arith) in
      rw (count_kept n h) (leb-true _ most_partitions few)

  factorial-small : factorial n < 10 ^ 14
  unfolding factorial
  factorial-small = omega (arith, factorial-rises n degree_limit h)

  module _ (class : Parts) (f : UpTo n n class) where
    value-short : (shape : Parts) → UpTo n n shape → Short (shape on class)
    value-short shape g =
        let full = no_zero class f.partition in
        let small = character-bounded shape class g.partition full (g.whole ∙ sym f.whole) in
        integer-length (shape on class) 13 (omega (arith, factorial-small, rw f.whole at small))

    each-value : Each Short (column class)
    unfolding column
    each-value =
        let each = each_map (UpTo n n) Short (◌on class) (listing n) value-short (each-listed n) in
        rw (← f.whole) at each

    values-short : length (commas (map integer (column class))) ≤ most_partitions * 16
    values-short =
        let each = each_map Short (λ t. length t ≤ 15) integer (column class) (λ z s. s) each-value in
        omega (
          arith,
          commas-length 15 (map integer (column class)) each,
          length-map (column class) integer,
          column-length class,
          ap (λ (m : ℕ). length (listing m)) f.whole,
          listing-few,
        )

    parts-short : length (commas (map decimal class)) ≤ degree_limit * 21
    parts-short =
        let parts = each_member (λ p. Unit {0}) class (λ p m. tt) in
        let each = each_map (λ p. Unit {0}) (λ t. length t ≤ 20) decimal class (λ p u. decimal-most p) parts in
        omega (
          arith,
          commas-length 20 (map decimal class) each,
          length-map class decimal,
          length-degree class f.partition,
          f.whole,
        )

    class-short : length (class_lines class) ≤ 4100
    unfolding class_lines class_text
    class-short =
        let p : Text = field "class=" (commas (map decimal class)) in
        let s : Text = field "size=" (decimal (class_size class)) in
        let v : Text = field "values=" (commas (map integer (column class))) in
        omega (
          arith,
          length-append (p ++ s) v,
          length-append p s,
          line-length (ascii "class=") (commas (map decimal class)),
          number-line (ascii "size=") (class_size class),
          line-length (ascii "values=") (commas (map integer (column class))),
          parts-short,
          values-short,
        )

  -- ---- a table
  table-short : length (table n (listing n)) ≤ room
  unfolding table
  table-short =
      let d : Text = field "degree=" (decimal n) in
      let k : Text = field "count=" (decimal (length (listing n))) in
      let c : Text = joined class_lines (listing n) in
      let e : Text = field "end=" (decimal (length (listing n))) in
      let most : Parts → Type 0 = λ class. length (class_lines class) ≤ 4100 in
      let each = each_same (UpTo n n) most (listing n) class-short (each-listed n) in
      omega (
        arith,
        length-append (d ++ k ++ c) e,
        length-append (d ++ k) c,
        length-append d k,
        number-line (ascii "degree=") n,
        number-line (ascii "count=") (length (listing n)),
        joined_length class_lines 4100 (listing n) each,
        number-line (ascii "end=") (length (listing n)),
        listing-few,
      )

-- ---- what the program writes
pub chartable-short : (input : Text) → length (chartable degree_limit input) ≤ room
unfolding chartable
chartable-short input = go (first_of checks) refl
  where
    n : ℕ
    n = get_or (asked input) 0 0

    checks : List Check
    checks = no-13 (not (length (asked input) =? 0)) ∷ no-12 degree_limit n ∷ []

    go : (k : ℕ) → first_of checks ≡ k
        → length (refused_or k (λ k. field "refused=" (decimal k)) (table n (listing n))) ≤ room
    go zero e = table-short n (ltb-false degree_limit n (none-applies checks refl e).1.0)
    go (suc k) e = omega (arith, number-line (ascii "refused=") (suc k))

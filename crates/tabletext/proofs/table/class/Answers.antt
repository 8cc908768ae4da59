-- What the calculator answers of the class is what its lines have.
use Rattle.std.proofs.Common.{◌≡◌, sym, ◌∙◌, refl, arith, length-take-le}
use mir.Syntax.{w64}
use mir.Val.{to_z, of_z}
use Rattle.std.specs.Prelude.{IsOk, ◌<◌, ◌≤◌}
use Rattle.std.specs.declared.result.Result.{Result}
use Rattle.std.specs.declared.result.Result.TheVariants.{Ok}
use Rattle.theory.specs.Basics.{List, [], ℕ, ℤ, get_or, length, replicate, take, pos, nat_abs}
use Rattle.theory.specs.Limits.{degree_limit}
use Rattle.theory.specs.Partition.{Parts}
use Rattle.theory.specs.ClassWord.{class_word}
use Rattle.theory.specs.ClassData.{class_size}
use Rattle.theory.specs.Listing.{listing}
use Rattle.theory.specs.Column.{column}
use Rattle.words.specs.declared.refusal.Refusal.{Refusal}
use Rattle.words.specs.Answers.{Outcome, word_told, number_told, count_told}
use Rattle.words.specs.Calls.{class_parts_into, size_of_class}
use Rattle.words.proofs.Callers.{FrontGiven}
use Rattle.words.proofs.Told.{count-told-number, is-given}
use Rattle.listing.specs.Calls.{class_at}
use Rattle.listing.specs.Private.Tables.{most_partitions}
use Rattle.classcolumns.specs.Calls.{column_into}
use Rattle.tabletext.specs.Table.{class_text, class_lines}
use Rattle.tabletext.specs.Table.Room.{listing-few}
use Rattle.tabletext.proofs.Classes.{word-of-rank, parts-of-rank, size_fits, size_handed, size-of-rank, column-of-rank}
use Rattle.tabletext.proofs.table.class.Goals as goal

inside-Ok : {A : Type 0} (x y : A) (r : Result A Refusal) → r ≡ Ok x → r ≡ Ok y → x ≡ y
inside-Ok x y r p q = cc

-- a count with what stands at a column's front
module _ {A : Type 0} {xs after : List A} (count : Result ℕ Refusal)
    (front : FrontGiven xs (count_told count) after) where
  front_ok : IsOk count
  front_ok = is-given count (sym (count-told-number count) ∙ front.none)

  unwrapped : {k : ℕ} → count ≡ Ok k → FrontGiven xs (count_told (Ok k)) after
  unwrapped k = rw k at front

-- the class of a rank: its word, its parts, its size and its column are asked for in this order
module _ (n r : ℕ)
    (listed : record { degree_le_degree_limit : n ≤ degree_limit; rank_in_bounds : r < length (listing n) }) where
  abbrev class : Parts
  class = get_or (listing n) r []

  abbrev small : n ≤ degree_limit
  small = listed.degree_le_degree_limit

  abbrev within : r < length (listing n)
  within = listed.rank_in_bounds

  module _ {answer : Result ℕ Refusal} (e : word_told answer ≡ class_at degree_limit n r) where
    worded : answer ≡ Ok (class_word class)
    worded = word-of-rank degree_limit (omega arith) n r small within answer e

    module _ {w : ℕ} (is : answer ≡ Ok w) where
      word : w ≡ class_word class
      word = inside-Ok w (class_word class) answer is worded

      module _ (count : Result ℕ Refusal) {parts : List ℕ}
          (o : Outcome (class_parts_into degree_limit w (replicate degree_limit 0)) (count_told count) parts) where
        parted : FrontGiven class (count_told count) parts
        parted = parts-of-rank degree_limit (omega arith) n r small within w word (count_told count) parts o

      module _ (size : Result ℤ Refusal) (s : number_told size ≡ size_of_class degree_limit w) where
        sized : size ≡ Ok (pos (class_size class))
        sized = size-of-rank degree_limit (omega arith) n r small within w word size s

        handed : (z : ℤ) → size ≡ Ok z → to_z w64 (of_z w64 z) ≡ pos (class_size class)
        handed z e =
            rw (inside-Ok z (pos (class_size class)) size e sized)
            (size_handed degree_limit (omega arith) n r small within)

      module _ (count : Result ℕ Refusal) {values : List ℤ}
          (o : Outcome (column_into degree_limit w (replicate most_partitions (pos 0))) (count_told count) values) where
        valued : FrontGiven (column class) (count_told count) values
        valued =
            column-of-rank degree_limit (omega arith) n r small within w word most_partitions (listing-few n small)
            (count_told count) values o

  -- what the lines are made of is the class's own
  text : {k m : ℕ} (z : ℤ) {parts : List ℕ} {values : List ℤ} → FrontGiven class (count_told (Ok k)) parts
      → to_z w64 (of_z w64 z) ≡ pos (class_size class) → FrontGiven (column class) (count_told (Ok m)) values
      → class_text (take k parts) (nat_abs (to_z w64 (of_z w64 z))) (take m values) ≡ class_lines class
  unfolding class_lines
  text z p s v = rw (p.front, s, v.front)

pub unwrap-class-requires : goal.unwrap-class-requires
unwrap-class-requires c = rw (worded c.args.degree c.args.rank c.requires c.class_at.ensures) refl

pub unwrap-count-requires : goal.unwrap-count-requires
unwrap-count-requires c =
    front_ok c.parts.result
    (parted c.args.degree c.args.rank c.requires c.class_at.ensures c.unwrap-class.ensures c.parts.result
    c.parts.ensures)

pub unwrap-size-requires : goal.unwrap-size-requires
unwrap-size-requires c =
    rw (sized c.args.degree c.args.rank c.requires c.class_at.ensures c.unwrap-class.ensures c.size.result
    c.size.ensures) refl

pub unwrap-length-requires : goal.unwrap-length-requires
unwrap-length-requires c =
    front_ok c.column.result
    (valued c.args.degree c.args.rank c.requires c.class_at.ensures c.unwrap-class.ensures c.column.result
    c.column.ensures)

pub slice_bounds-parts-end-2 : goal.slice_bounds-parts-end-2
slice_bounds-parts-end-2 c =
    (unwrapped c.parts.result
    (parted c.args.degree c.args.rank c.requires c.class_at.ensures c.unwrap-class.ensures c.parts.result
    c.parts.ensures) c.unwrap-count.ensures).inside

pub slice_bounds-lines-end : goal.slice_bounds-lines-end
slice_bounds-lines-end c =
    let parts = unwrapped c.parts.result
    (parted c.args.degree c.args.rank c.requires c.class_at.ensures c.unwrap-class.ensures c.parts.result
    c.parts.ensures) c.unwrap-count.ensures in
    sym (length-take-le _ _ parts.inside)

pub overflow_cast-size : goal.overflow_cast-size
overflow_cast-size c =
    let most = size_fits degree_limit (omega arith) c.args.degree c.args.rank c.requires.degree_le_degree_limit
    c.requires.rank_in_bounds in
    rw (handed c.args.degree c.args.rank c.requires c.class_at.ensures c.unwrap-class.ensures c.size.result
    c.size.ensures c.unwrap-size.result c.unwrap-size.ensures) (tt, record { fits = omega (arith, most) })

pub slice_bounds-values-end : goal.slice_bounds-values-end
slice_bounds-values-end c =
    (unwrapped c.column.result
    (valued c.args.degree c.args.rank c.requires c.class_at.ensures c.unwrap-class.ensures c.column.result
    c.column.ensures) c.unwrap-length.ensures).inside

pub slice_bounds-lines-end-2 : goal.slice_bounds-lines-end-2
slice_bounds-lines-end-2 c =
    let values = unwrapped c.column.result
    (valued c.args.degree c.args.rank c.requires c.class_at.ensures c.unwrap-class.ensures c.column.result
    c.column.ensures) c.unwrap-length.ensures in
    sym (length-take-le _ _ values.inside)

pub returns : goal.returns
returns c =
    let parts = unwrapped c.parts.result
    (parted c.args.degree c.args.rank c.requires c.class_at.ensures c.unwrap-class.ensures c.parts.result
    c.parts.ensures) c.unwrap-count.ensures in
    let size = handed c.args.degree c.args.rank c.requires c.class_at.ensures c.unwrap-class.ensures c.size.result
    c.size.ensures c.unwrap-size.result c.unwrap-size.ensures in
    let values = unwrapped c.column.result
    (valued c.args.degree c.args.rank c.requires c.class_at.ensures c.unwrap-class.ensures c.column.result
    c.column.ensures) c.unwrap-length.ensures in
    rw (← text c.args.degree c.args.rank c.requires c.unwrap-size.result parts size values) c.lines.ensures

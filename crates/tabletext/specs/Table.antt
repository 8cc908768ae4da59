-- The table program's text for any input text (document 01, "Table program"), of decimals, commas and fields as
-- text/specs/Text has them.
--   class_text          the lines of a class: parts, size, values
--   class_lines class   those of a class with its number of elements and its column
--   table n classes    the table of degree n, for the classes of a list
--   asked input        the numbers of one or two digits whose line the input is: one, or none
--   chartable limit input   what the program writes; chartable_into, at the front of lent bytes, the rest stays
use Rattle.std.specs.Prelude.{◌∷◌, ◌++◌}
use Rattle.theory.specs.Basics.{not, List, [], map, length, get_or, drop, ℕ, ℤ}
use Rattle.theory.specs.Basics.{◌=?◌, keep, joined, down_from, same}
use Rattle.theory.specs.Partition.{Parts}
use Rattle.theory.specs.ClassData.{class_size}
use Rattle.theory.specs.Listing.{listing}
use Rattle.theory.specs.Column.{column}
use Rattle.theory.specs.Refusals.{first_of, refused_or, no-12, no-13}
use Rattle.text.specs.Text.{Text, decimal, integer, commas, field}
pub mod Asked
pub mod Room
pub mod Sample

unfoldable pub class_text : Parts → ℕ → List ℤ → Text
class_text parts size values =
    field "class=" (commas (map decimal parts)) ++ field "size=" (decimal size)
    ++ field "values=" (commas (map integer values))

unfoldable pub class_lines : Parts → Text
class_lines class = class_text class (class_size class) (column class)

unfoldable pub table : ℕ → List Parts → Text
table n classes =
    field "degree=" (decimal n) ++ field "count=" (decimal (length (listing n)))
    ++ joined class_lines classes ++ field "end=" (decimal (length classes))

unfoldable pub asked : Text → List ℕ
asked input = keep (λ n. same input (field "degree=" (decimal n))) (0 ∷ down_from 99)

unfoldable pub chartable : ℕ → Text → Text
chartable limit input =
    refused_or (first_of (no-13 (not (length (asked input) =? 0)) ∷ no-12 limit n ∷ []))
    (λ k. field "refused=" (decimal k)) (table n (listing n))
  where
    n : ℕ
    n = get_or (asked input) 0 0

unfoldable pub chartable_into : ℕ → Text → Text → ℕ × Text
chartable_into limit input out = (length text, text ++ drop (length text) out)
  where
    text : Text
    text = chartable limit input

-- Document 01's sample of the table program, by computation.
use Rattle.std.specs.Prelude.{◌≡◌, refl, ◌++◌}
use Rattle.theory.specs.Basics.{true, same}
use Rattle.theory.proofs.Basics.Laws.{same_lists}
use Rattle.theory.specs.Bounds.{factorial}
use Rattle.theory.specs.Character.{character}
use Rattle.theory.specs.ClassData.{class_divisor, class_size}
use Rattle.theory.specs.Listing.{partitions, listing}
use Rattle.theory.specs.Column.{column}
use Rattle.theory.specs.Limits.{degree_limit}
use Rattle.text.specs.Text.{Text, ascii, decimal, integer, commas}
use Rattle.tabletext.specs.Table.{class_text, class_lines, table, asked, chartable}

unfoldable pub degree-3 : Text
degree-3 =
    ascii "degree=3\ncount=3\n" ++ ascii "class=3\nsize=2\nvalues=1,-1,1\n"
    ++ ascii "class=2,1\nsize=3\nvalues=1,0,-1\n"
    ++ ascii "class=1,1,1\nsize=1\nvalues=1,2,1\n" ++ ascii "end=3\n"

same_bytes : same (chartable degree_limit (ascii "degree=3\n")) degree-3 ≡ true
unfolding degree-3 chartable asked table class_lines class_text commas integer decimal listing partitions column character
    class_size class_divisor factorial
same_bytes = refl

pub sample : chartable degree_limit (ascii "degree=3\n") ≡ degree-3
sample = same_lists _ degree-3 same_bytes

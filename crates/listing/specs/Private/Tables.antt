-- The table of shape words, and the sizes of what the listing fills.
--   shape_words       the words of all shapes within document 01's limit, as the table has them
--   word_count        how many they are
--   most_partitions   how many partitions a degree has at most
use Rattle.theory.specs.Basics.{List, ℕ}
use Rattle.theory.specs.Limits.{degree_limit}
use Rattle.listing.specs.Calls.{words_within}

abbrev pub shape_words : List ℕ
shape_words = words_within degree_limit

abbrev pub word_count : ℕ
word_count = 915

abbrev pub most_partitions : ℕ
most_partitions = 231

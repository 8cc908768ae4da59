-- The places of shape words: a column's table keeps a number for each shape within a limit, at the place of its word.
--   Places        a limit, how many places there are, and the place of each word
--   eight_digits   eight digits make numbers below it
--   place_of t     the place of a shape word t: by its digits 2 to 9 a displacement, and its digits 10 to 17 added
--   place_count    so places are below it
--   shape_places   these places, at document 01's limit
use Rattle.std.specs.Prelude.{◌+◌, ◌/◌, ◌%◌, ◌^◌}
use Rattle.theory.specs.Basics.{ℕ, get_or}
use Rattle.theory.specs.Limits.{degree_limit}
use Rattle.classcolumns.specs.Private.Displacements.{displacement_table, largest_displacement}

pub record Places : Type 0 where
  pub limit : ℕ
  pub count : ℕ
  pub place : ℕ → ℕ

abbrev pub eight_digits : ℕ
eight_digits = 256

unfoldable pub place_of : ℕ → ℕ
place_of t = get_or displacement_table (t / 2 ^ 22) 0 + t / 2 ^ 14 % eight_digits

abbrev pub place_count : ℕ
place_count = largest_displacement + eight_digits

abbrev pub shape_places : Places
shape_places = record { limit = degree_limit; count = place_count; place = place_of }

-- Partitions as part lists (document 01, "Part list"; "its degree alone always means n"; document 000, footnote 7).
--   Parts            a list of parts; a shape is the list of its rows, a class the list of its cycles, longest first
--   first ps         the part that stands first, 0 if there is none
--   is_partition ps   no part is 0 and none is above the one before it; the empty list is the empty partition
--   degree ps        the sum of the parts
--   times p ps       how often p occurs among the parts
--   without m ps     the parts with one m taken out, if there is one
--   transposed ps    rows and columns interchanged: column j is as long as there are rows of length j or more
use Rattle.std.specs.Prelude.{◌&&◌, ◌∷◌}
use Rattle.theory.specs.Basics.{Bool, true, cond, List, [], map, ℕ}
use Rattle.theory.specs.Basics.{get_or, ◌=?◌, ◌<?◌, ◌≤?◌, count, total, up_from}
pub mod Laws

abbrev pub Parts : Type 0
Parts = List ℕ

abbrev pub first : Parts → ℕ
first ps = get_or ps 0 0

abbrev pub is_partition : Parts → Bool
is_partition [] = true
is_partition (p ∷ ps) = 0 <? p && first ps ≤? p && is_partition ps

abbrev pub degree : Parts → ℕ
degree ps = total ps

abbrev pub times : ℕ → Parts → ℕ
times p ps = count (◌=? p) ps

abbrev pub without : ℕ → Parts → Parts
without m [] = []
without m (p ∷ ps) = cond (p =? m) ps (p ∷ without m ps)

abbrev pub transposed : Parts → Parts
transposed ps = map (λ j. count (j ≤?◌) ps) (up_from 1 (first ps))

-- What the private functions of columns are asked, and what they keep: a table of the values of one class for all
-- shapes of its degree, each at the place of its word (document 01, "A column writes the values of one class").
--   entry p table w           what the table has at the place of the shape word w
--   entries p table n         what it has for the shapes of degree n, in listing order
--   entries_into p table n run the entries for degree n at the front of a lent run
--   Table p table             as many entries as there are places, and none above d! in size for a shape of degree d
--   Cycles limit cycles       the cycles of a class within the limit
--   Kept p table cycles       a table that has, for each shape of their degree, its character on these cycles
use Rattle.std.specs.Prelude.{◌≡◌, ◌≤◌}
use Rattle.theory.specs.Basics.{List, map, ℕ, ℤ, pos, nat_abs, length, get_or}
use Rattle.theory.specs.Partition.{Parts, degree}
use Rattle.theory.specs.Partition.Laws.{NoZero}
use Rattle.theory.specs.ShapeWord.{shape_word, shape_of}
use Rattle.theory.specs.Character.{◌on◌}
use Rattle.theory.specs.Bounds.{factorial}
use Rattle.theory.specs.Listing.{listing}
use Rattle.theory.specs.Refusals.Laws.{Within}
use Rattle.words.specs.Answers.{at_front}
use Rattle.characters.specs.Private.Evaluation.{Evaluable}
use Rattle.classcolumns.specs.Private.Places.{Places}

abbrev pub entry : Places → List ℤ → ℕ → ℤ
entry p table w = get_or table (p.place w) (pos 0)

unfoldable pub entries : Places → List ℤ → ℕ → List ℤ
entries p table n = map (λ shape. entry p table (shape_word shape)) (listing n)

abbrev pub entries_into : Places → List ℤ → ℕ → List ℤ → List ℤ
entries_into p table n run = at_front (entries p table n) run

pub record Table (p : Places) (table : List ℤ) : Type 0 where
  pub long : length table ≡ p.count
  pub bounded : (w : ℕ) → Within p.limit w → nat_abs (entry p table w) ≤ factorial (degree (shape_of w))

pub record Cycles (limit : ℕ) (cycles : Parts) : Type 0 where
  pub no_zero : NoZero cycles
  pub small : degree cycles ≤ limit

pub record Kept (p : Places) (table : List ℤ) (cycles : Parts) : Type 0 where
  pub form : Table p table
  pub holds : (w : ℕ) → Evaluable p.limit w cycles → entry p table w ≡ shape_of w on cycles

-- A column (document 01, "Listing").
--   column class   the values of one class for all shapes of its degree, in listing order
use Rattle.theory.specs.Basics.{List, map, ℤ}
use Rattle.theory.specs.Partition.{Parts, degree}
use Rattle.theory.specs.Character.{◌on◌}
use Rattle.theory.specs.Listing.{listing}

unfoldable pub column : Parts → List ℤ
column class = map (◌on class) (listing (degree class))

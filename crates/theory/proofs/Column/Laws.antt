-- A column has a value for each partition of the listing, in its place.
use Rattle.std.specs.Prelude.{◌≡◌, ◌<◌}
use Rattle.std.proofs.Math.ListN.{length-map}
use Rattle.theory.specs.Basics.{[], ℕ, length, get_or, pos}
use Rattle.theory.proofs.Basics.AtPlace.{map_at}
use Rattle.theory.specs.Partition.{Parts, degree}
use Rattle.theory.specs.Character.{◌on◌}
use Rattle.theory.specs.Listing.{listing}
use Rattle.theory.specs.Column.{column}

module _ (class : Parts) where
  pub column-length : length (column class) ≡ length (listing (degree class))
  unfolding column
  column-length = length-map (listing (degree class)) _

  pub column-at : (i : ℕ) → i < length (listing (degree class))
      → get_or (column class) i (pos 0) ≡ get_or (listing (degree class)) i [] on class
  unfolding column
  column-at i h = map_at (◌on class) (listing (degree class)) [] (pos 0) i h

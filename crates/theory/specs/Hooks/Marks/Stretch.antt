-- A hook by its stretch: the digits behind its zero, down to its one, as a word that has its ones there.
--   stretch z h    the stretch of a hook of length h whose zero counts z
--   zeros_odd s r   whether the zeros that the word s has at the ones of r are odd in number
--   raised s r     the word s with r added, as 32 bits have room, and leading ones shifted out
--   hook_by s r     the hook of the word s that has the stretch r
-- A stretch added carries from the one to the zero, and so exchanges the two; it ends in a one, so its zeros are those
-- strictly between.
use Rattle.std.specs.Prelude.{◌+◌, ◌-◌, ◌/◌, ◌%◌, ◌^◌}
use Rattle.std.specs.Int.Bits.{bit_and}
use Rattle.std.specs.Int.Count
use Rattle.theory.specs.Basics.{Bool, ℕ, odd}
use Rattle.theory.specs.ShapeWord.Shifting.{ones_out}
use Rattle.theory.specs.Hooks.{Hook}

unfoldable pub stretch : ℕ → ℕ → ℕ
stretch z h = z - z / 2 ^ h

unfoldable pub zeros_odd : ℕ → ℕ → Bool
zeros_odd s r = odd (Count.ones (bit_and ((2 ^ 32 - 1) - s) r))

unfoldable pub raised : ℕ → ℕ → ℕ
raised s r = ones_out ((s + r) % 2 ^ 32)

abbrev pub hook_by : ℕ → ℕ → Hook ℕ
hook_by s r = record { minus = zeros_odd s r; leaves = raised s r }

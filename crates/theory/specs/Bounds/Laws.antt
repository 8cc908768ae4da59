-- The limit that laws of bounds ask for.
--   largest_limit   20: the greatest limit on degrees at which numbers still have room in 64 bits, as laws ask
use Rattle.theory.specs.Basics.{ℕ}

-- up to this limit every number has room in 64 bits, and laws ask for no more than that
abbrev pub largest_limit : ℕ
largest_limit = 20

-- Zeros from the front on are zeros all over.
use Rattle.std.specs.Prelude.{◌≡◌, ◌++◌, ◌-◌}
use Rattle.std.proofs.Common.{arith}
use Rattle.theory.specs.Basics.{List, length, take, replicate}

pub cleared-whole : {A : Type 0} (v : A) (xs : List A)
    → take 0 xs ++ replicate (length xs - 0) v ≡ replicate (length xs) v
cleared-whole v xs =
    let all : length xs - 0 ≡ length xs = omega arith in
    rw all

-- The column of a session that is opened with a line: its coefficient, and zeros.
use Rattle.std.specs.Prelude.{◌++◌, ◌-◌}
use mathlib.Core.Path.{◌≡◌}
use Prim.Native.Nat.{◌≤◌}
use native.Mathlib.Omega.{arith}
use Rattle.theory.specs.Basics.{List, set, replicate, ℕ, zero, suc, ℤ, pos}

abbrev pub first-column : ℕ → ℕ → List ℤ
first-column lines n = replicate lines (pos 1) ++ replicate (n - lines) (pos 0)

pub one_line : (n : ℕ) → 1 ≤ n → set (replicate n (pos 0)) 0 (pos 1) ≡ first-column 1 n
one_line zero h = absurd (omega arith)
one_line (suc n) h =
    let e : suc n - 1 ≡ n = omega arith in
    rw e

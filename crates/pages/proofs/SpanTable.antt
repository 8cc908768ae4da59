-- The table of S(d), and tables that are lent.
use Rattle.std.specs.Prelude.{◌∷◌}
use mathlib.Core.Path.{◌≡◌, refl}
use Prim.Native.Nat.{◌≤◌}
use native.Mathlib.Omega.{arith}
use Rattle.theory.specs.Basics.{List, [], get_or, ℕ}
use Rattle.theory.proofs.Basics.AtPlace.{tabled-at}
use Rattle.theory.specs.Limits.{degree_limit}
use Rattle.theory.specs.Bounds.{factorial, S}
use Rattle.words.proofs.Factorials.{factorials, factorials-tabled}
use Rattle.pages.specs.Private.Tables.{Tabled}

pub tabled-is : {limit : ℕ} {f : ℕ → ℕ} {table : List ℕ} → Tabled limit f table → (d : ℕ) → d ≤ limit
    → get_or table d 0 ≡ f d
tabled-is {f = f} {table = table} t d small = tabled-at f table d t.rule (omega (arith, t.size))

abbrev pub span_table : List ℕ
span_table =
    0 ∷ 1 ∷ 3 ∷ 10 ∷ 41 ∷ 206 ∷ 1237 ∷ 8660 ∷ 69281 ∷ 623530 ∷ 6235301 ∷ 68588312 ∷ 823059745 ∷ 10699776686
    ∷ 149796873605 ∷ 2246953104076 ∷ 35951249665217 ∷ []

pub spans-tabled : Tabled degree_limit S span_table
spans-tabled = record { size = refl; rule = unfold S in refl }

pub factorials-table : Tabled degree_limit factorial factorials
factorials-table = record { size = refl; rule = factorials-tabled }

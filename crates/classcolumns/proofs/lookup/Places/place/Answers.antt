-- It reads place_of off, which is below the count of places.
use Rattle.std.specs.Prelude.{◌≡◌, ◌+◌, ◌/◌, ◌%◌, ◌^◌}
use Rattle.std.proofs.Common.{◌∙◌, ap, arith}
use Rattle.theory.specs.Basics.{List, ℕ, get_or, length}
use Rattle.theory.proofs.ShapeWord.Good.{good-shape}
use Rattle.classcolumns.specs.Private.Displacements.{displacement_table}
use Rattle.classcolumns.specs.Private.Places.{place_of, eight_digits}
use Rattle.classcolumns.proofs.PlaceLaws.{displacements-length, place-below}
use Rattle.classcolumns.proofs.lookup.Places.place.Goals as goal

pub bounds-self-high : goal.bounds-self-high
bounds-self-high c =
    omega (arith, ap length c.args.self.told, displacements-length, (good-shape c.args.word c.requires).below)

sum-is : (displacements : List ℕ) (t high : ℕ) → displacements ≡ displacement_table
    → high ≡ get_or displacements (t / 2 ^ 22) 0 → high + t / 2 ^ 14 % eight_digits ≡ place_of t
unfolding place_of
sum-is displacements t high told is =
    let own = is ∙ ap (λ (table : List ℕ). get_or table (t / 2 ^ 22) 0) told in
    ap (λ (x : ℕ). x + t / 2 ^ 14 % eight_digits) own

pub returns : goal.returns
returns c =
    let is = sum-is c.args.self.displacements.now c.args.word c.from.result c.args.self.told c.from.ensures in
    (is, omega (arith, is, place-below c.args.word c.requires))

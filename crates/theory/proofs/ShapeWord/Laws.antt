-- Shapes as digits, there and back (document 01, "Shape word").
use Rattle.std.specs.Prelude.{◌≡◌, refl, ◌≤◌, ◌<◌, ◌∷◌, ◌++◌, ◌+◌, ◌-◌}
use Rattle.std.proofs.Common.{sym, ◌∙◌, ap, ap₂, pos_of_ne-zero, arith, length-append, eq-eqb, ne_eqb}
use Rattle.std.proofs.Math.Decide.{ℕ_discrete}
use Rattle.std.proofs.Math.Nat.{sub_self}
use Rattle.std.proofs.lemmas.List.{length-replicate}
use Rattle.theory.specs.Basics.{true, false, [], ℕ, zero, suc, length, replicate}
use Rattle.theory.specs.Partition.{Parts, first, is_partition, degree}
use Rattle.theory.proofs.Partition.Laws.{front, in-front}
use Rattle.theory.specs.Digits.{Digits, ones, up_to_last_one}
use Rattle.theory.proofs.Digits.Laws.{filled}
use Rattle.theory.proofs.Digits.LastOne.{LastOne, none, some, last, last-filled, ones-last, ones-run}
use Rattle.theory.specs.ShapeWord.{shape_digits, rows, pairs}

-- ---- the rows of digits
-- a zero is a row if a one stands after it
pub rows-zero : (ds : Digits) → 0 < ones ds → rows (false ∷ ds) ≡ ones ds ∷ rows ds
rows-zero ds h = rw (ne_eqb (ones ds) 0 (λ e. omega arith))

pub rows_none : (ds : Digits) → ones ds ≡ 0 → rows ds ≡ []
rows_none [] e = refl
rows_none (true ∷ ds) e = absurd (omega arith)
rows_none (false ∷ ds) e = rw (eq-eqb (ones ds) 0 e)

-- only the digits up to the last one count
pub rows_last : {ds us : Digits} → LastOne ds us → rows us ≡ rows ds
rows_last (none {ds = ds} e) = sym (rows_none ds e)
rows_last (some {d = true} h u) = rows_last u
rows_last (some {d = false} {ds = ds} h u) = rw (ones-last u, rows_last u)

pub rows-filled : (n : ℕ) (ds : Digits) → length (up_to_last_one ds) ≤ n → rows (filled n ds) ≡ rows ds
rows-filled n ds l =
    sym (rows_last (last (filled n ds))) ∙ ap rows (last-filled n ds l) ∙ rows_last (last ds)

-- what holds if a zero is no row and if it is one, holds of the rows from it
pub row-cases : (P : Parts → Type 0) (ds : Digits) → (ones ds ≡ 0 → P []) → (0 < ones ds → P (ones ds ∷ rows ds))
    → P (rows (false ∷ ds))
row-cases P ds a b = elim (ℕ_discrete (ones ds) 0) [
  | yes e ↦ rw (rows_none (false ∷ ds) e) (a e)
  | no f ↦ rw (rows-zero ds (pos_of_ne-zero f)) (b (pos_of_ne-zero f))
]

pub first_rows : (ds : Digits) → first (rows ds) ≤ ones ds
first_rows [] = omega arith
first_rows (true ∷ ds) = omega (arith, first_rows ds)
first_rows (false ∷ ds) = row-cases (λ rs. first rs ≤ ones ds) ds (λ e. omega arith) (λ h. omega arith)

pub rows-partition : (ds : Digits) → is_partition (rows ds) ≡ true
rows-partition [] = refl
rows-partition (true ∷ ds) = rows-partition ds
rows-partition (false ∷ ds) = row-cases (λ rs. is_partition rs ≡ true) ds
    (λ e. refl)
    (λ h. in-front {ps = rows ds} (record { positive = h; falls = first_rows ds; rest = rows-partition ds }))

pub degree-pairs : (ds : Digits) → pairs ds ≡ degree (rows ds)
degree-pairs [] = refl
degree-pairs (true ∷ ds) = degree-pairs ds
degree-pairs (false ∷ ds) = row-cases (λ rs. ones ds + pairs ds ≡ degree rs) ds
    (λ e. omega (arith, degree-pairs ds, ap degree (rows_none ds e)))
    (λ h. ap (λ (n : ℕ). ones ds + n) (degree-pairs ds))

-- rows are zeros, so rows and ones are all digits up to the last one
pub length-rows : {ds us : Digits} → LastOne ds us → length (rows ds) + ones ds ≡ length us
length-rows (none {ds = ds} e) = rw (rows_none ds e) (omega arith)
length-rows (some {d = true} h u) = omega (arith, length-rows u)
length-rows (some {d = false} {ds = ds} h u) = rw (rows-zero ds h) (omega (arith, length-rows u))

-- ---- the digits of a shape
rows_run : (k : ℕ) (ds : Digits) → rows (replicate k true ++ ds) ≡ rows ds
rows_run zero ds = refl
rows_run (suc k) ds = rows_run k ds

-- a row's length is the number of ones after its zero
pub ones-shape : (ps : Parts) → is_partition ps ≡ true → ones (shape_digits ps) ≡ first ps
ones-shape [] e = refl
ones-shape (p ∷ ps) e =
    let f = front p ps e in
    omega (arith, ones-run (p - first ps) (shape_digits ps), ones-shape ps f.rest)

pub rows-shape : (ps : Parts) → is_partition ps ≡ true → rows (shape_digits ps) ≡ ps
rows-shape [] e = refl
rows-shape (p ∷ ps) e =
    let f = front p ps e in
    let k : ℕ = p - first ps in
    let o = ones-shape (p ∷ ps) e in
    rows-zero (replicate k true ++ shape_digits ps) (omega arith)
    ∙ ap₂ (λ (r : ℕ) (rs : Parts). r ∷ rs) o (rows_run k (shape_digits ps) ∙ rows-shape ps f.rest)

pub length-shape : (ps : Parts) → is_partition ps ≡ true → length (shape_digits ps) ≡ length ps + first ps
length-shape [] e = omega arith
length-shape (p ∷ ps) e =
    let f = front p ps e in
    simp (length-append, length-replicate) (omega (arith, length-shape ps f.rest))

-- ---- there and back
rows_back : {ds us : Digits} → LastOne ds us → replicate (ones ds - first (rows ds)) true ++ shape_digits (rows ds) ≡ us
rows_back (none {ds = ds} e) = rw (rows_none ds e, e)
rows_back (some {d = true} {ds = ds} h u) =
    let e : suc (ones ds) - first (rows ds) ≡ suc (ones ds - first (rows ds)) = omega (arith, first_rows ds) in
    rw e (ap {B = Digits} (λ l. true ∷ l) (rows_back u))
rows_back (some {d = false} {ds = ds} h u) =
    rw (rows-zero ds h, sub_self (ones ds)) (ap {B = Digits} (λ l. false ∷ l) (rows_back u))

-- digits with a zero in front are, up to the last one, those of their shape
pub shape-rows : (ds : Digits) → shape_digits (rows (false ∷ ds)) ≡ up_to_last_one (false ∷ ds)
shape-rows ds =
    let e : ones ds - first (rows (false ∷ ds)) ≡ 0 =
    row-cases (λ rs. ones ds - first rs ≡ 0) ds (λ e. omega arith) (λ h. omega arith) in
    ap (λ (k : ℕ). replicate k true ++ shape_digits (rows (false ∷ ds))) (sym e) ∙ rows_back (last (false ∷ ds))

-- Laws of hooks, on digits and for any length h: what a hook leaves, and how many hooks there are.
--   Exchange h ds hook   what the hook leaves has as many digits and as many ones as ds, and h pairs fewer
use Rattle.std.specs.Prelude.{◌≡◌, refl, ◌≤◌, ◌∷◌, ◌++◌, ◌+◌}
use Rattle.std.proofs.Common.{ap, le_trans, arith, length-append, length-take, take-append-drop, drop_of_length-le, eq-eqb, ne_eqb}
use Rattle.std.proofs.Math.Decide.{ℕ_discrete, dec_lt}
use Rattle.std.proofs.lemmas.List.{length-map}
use Rattle.theory.specs.Basics.{Bool, true, false, List, [], take, drop, length}
use Rattle.theory.specs.Basics.{ℕ, zero, suc, Each}
use Rattle.theory.proofs.Basics.Laws.{each_append, each_map}
use Rattle.theory.specs.Partition.{degree}
use Rattle.theory.proofs.Partition.Laws.{length-degree}
use Rattle.theory.specs.Digits.{Digits, ones}
use Rattle.theory.specs.ShapeWord.{rows, pairs, shifted}
use Rattle.theory.proofs.ShapeWord.Laws.{rows_none, rows-partition, degree-pairs}
use Rattle.theory.proofs.ShapeWord.InFront.{pairs-shifted}
use Rattle.theory.specs.Hooks.{Hook, hooks}
use Rattle.theory.proofs.Hooks.Walk.{led, hook_over, hooks-none, hooks-one, hooks-zero, no_length}

pub record Exchange (h : ℕ) (ds : Digits) (hook : Hook Digits) : Type 0 where
  pub lower : pairs hook.leaves + h ≡ pairs ds
  pub same-ones : ones hook.leaves ≡ ones ds
  pub same_length : length hook.leaves ≡ length ds

-- ---- the exchange of a zero and a one
ones-exchanged : (between after : Digits) → suc (ones (between ++ false ∷ after)) ≡ ones (between ++ true ∷ after)
ones-exchanged [] after = refl
ones-exchanged (true ∷ between) after = ap suc (ones-exchanged between after)
ones-exchanged (false ∷ between) after = ones-exchanged between after

-- each digit between is in one pair fewer, with the zero if it is a one and with the one if it is a zero
pairs-exchanged : (between after : Digits)
    → pairs (between ++ false ∷ after) + suc (length between) ≡ pairs (false ∷ between ++ true ∷ after)
pairs-exchanged [] after = omega arith
pairs-exchanged (true ∷ between) after = omega (arith, pairs-exchanged between after)
pairs-exchanged (false ∷ between) after = omega (arith, pairs-exchanged between after, ones-exchanged between after)

exchange-over : (between after : Digits)
    → Each (Exchange (suc (length between)) (false ∷ between ++ after)) (hook_over between after)
exchange-over between [] = tt
exchange-over between (false ∷ after) = tt
exchange-over between (true ∷ after) = (
  record {
    lower = pairs-exchanged between after;
    same-ones = omega (arith, ones-exchanged between after);
    same_length = simp length-append;
  },
  tt,
)

exchange-first : (k : ℕ) (ds : Digits) → Each (Exchange (suc k) (false ∷ ds)) (hook_over (take k ds) (drop k ds))
exchange-first k ds = elim (dec_lt k (length ds)) [
  | yes l ↦
      let e : length (take k ds) ≡ k = omega (arith, length-take k ds) in
      rw (e, take-append-drop k ds) at (exchange-over (take k ds) (drop k ds))
  | no g ↦ rw (drop_of_length-le ds {i = k} (omega arith)) tt
]

exchange-led : {h : ℕ} {ds : Digits} (d : Bool) (hook : Hook Digits) → Exchange h ds hook
    → Exchange h (d ∷ ds) (led d hook)
exchange-led true hook e =
    record { lower = e.lower; same-ones = ap suc e.same-ones; same_length = ap suc e.same_length }
exchange-led false hook e =
    record { lower = omega arith; same-ones = e.same-ones; same_length = ap suc e.same_length }

-- a hook of length h keeps the number of digits, and the degree falls by h
pub exchanges : (h : ℕ) (ds : Digits) → Each (Exchange h ds) (hooks h ds)
exchanges zero ds = rw (no_length ds) tt
exchanges (suc k) [] = rw (hooks-none (suc k)) tt
exchanges (suc k) (true ∷ ds) = rw (hooks-one (suc k) ds)
    (each_map (Exchange (suc k) ds) _ (led true) (hooks (suc k) ds) (exchange-led true) (exchanges (suc k) ds))
exchanges (suc k) (false ∷ ds) = rw (hooks-zero k ds)
    (each_append (Exchange (suc k) (false ∷ ds)) (hook_over (take k ds) (drop k ds)) _ (exchange-first k ds)
    (each_map (Exchange (suc k) ds) _ (led false) (hooks (suc k) ds) (exchange-led false) (exchanges (suc k) ds)))

-- ---- how many hooks there are
few-over : (between after : Digits)
    → (length (hook_over between after) ≤ 1) × (length (hook_over between after) ≤ ones after)
few-over between [] = (omega arith, omega arith)
few-over between (false ∷ after) = (omega arith, omega arith)
few-over between (true ∷ after) = (omega arith, omega arith)

ones-drop : (n : ℕ) (ds : Digits) → ones (drop n ds) ≤ ones ds
ones-drop zero ds = omega arith
ones-drop (suc n) [] = omega arith
ones-drop (suc n) (true ∷ ds) = omega (arith, ones-drop n ds)
ones-drop (suc n) (false ∷ ds) = ones-drop n ds

-- a row has one hook of a length at most
pub hooks-rows : (h : ℕ) (ds : Digits) → length (hooks h ds) ≤ length (rows ds)
hooks-rows zero ds = rw (no_length ds) (omega arith)
hooks-rows (suc k) [] = rw (hooks-none (suc k)) (omega arith)
hooks-rows (suc k) (true ∷ ds) =
    rw (hooks-one (suc k) ds, length-map (hooks (suc k) ds) (led true)) (hooks-rows (suc k) ds)
hooks-rows (suc k) (false ∷ ds) =
    let first : List (Hook Digits) = hook_over (take k ds) (drop k ds) in
    let few = few-over (take k ds) (drop k ds) in
    let rest = hooks-rows (suc k) ds in
    rw (hooks-zero k ds, length-append first _, length-map (hooks (suc k) ds) (led false))
    (elim (ℕ_discrete (ones ds) 0) [
      | yes e ↦ rw (eq-eqb (ones ds) 0 e) (omega (arith, ones-drop k ds, ap length (rows_none ds e)))
      | no f ↦ rw (ne_eqb (ones ds) 0 f) (omega arith)
    ])

pub hooks-by-degree : (h : ℕ) (ds : Digits) → length (hooks h ds) ≤ degree (rows ds)
hooks-by-degree h ds = le_trans (hooks-rows h ds) (length-degree (rows ds) (rows-partition ds))

-- ---- the degree of what is left
pub exchange-degree : (h : ℕ) (ds : Digits) (hook : Hook Digits) → Exchange h ds hook
    → degree (rows (shifted hook.leaves)) + h ≡ degree (rows ds)
exchange-degree h ds hook e =
    omega (arith, degree-pairs (shifted hook.leaves), pairs-shifted hook.leaves, degree-pairs ds)

-- A character degree is at least 1 and at most n! (document 01, "Character degree of a shape"): each hook of length 1
-- has a plus, and a shape that has a row has such a hook.
use Rattle.std.specs.Prelude.{◌≡◌, refl, ◌<◌, ◌≤◌, ◌∷◌, ◌+◌, ◌+ℤ◌}
use Rattle.std.proofs.Common.{sym, ap, arith}
use Rattle.std.proofs.Math.IntN.{+ℤ_idr}
use Rattle.std.proofs.lemmas.List.{length-map}
use Rattle.theory.specs.Basics.{false, true, List, [], replicate, length, ℕ, zero, suc, sum, signed}
use Rattle.theory.specs.Basics.{ℤ, pos, nat_abs, Each}
use Rattle.theory.proofs.Basics.Laws.{each_append, each_map, each_same, each_both}
use Rattle.theory.specs.Partition.{degree}
use Rattle.theory.proofs.Partition.Laws.{no-degree}
use Rattle.theory.specs.Digits.{Digits, digits, width}
use Rattle.theory.specs.ShapeWord.{rows, pairs, shape_of, shifted}
use Rattle.theory.proofs.ShapeWord.Laws.{rows-partition, degree-pairs}
use Rattle.theory.proofs.ClassWord.Identity.{ones-degree, ones-no-zero}
use Rattle.theory.specs.Character.{character, ◌on◌, character_degree}
use Rattle.theory.specs.Hooks.{Hook, hooks}
use Rattle.theory.proofs.Hooks.Walk.{led, hook_over, hooks-none, hooks-one, hooks-zero}
use Rattle.theory.proofs.Hooks.Laws.{Exchange, exchanges, exchange-degree}
use Rattle.theory.proofs.Hooks.Rule.{hook-rule}
use Rattle.theory.specs.Bounds.{factorial}
use Rattle.theory.proofs.Hooks.Bounds.{word-bounded}
use Rattle.theory.specs.Hooks.Degrees.{Positive}

-- ---- sums
positive-add : {a b : ℤ} → Positive a → Positive b → Positive (a +ℤ b)
positive-add p q = record {
  before = p.before + suc q.before;
  is = rw (p.is, q.is) (ap pos (omega arith));
}

positive-sum : {A : Type 0} (f : A → ℤ) (xs : List A) → 0 < length xs → Each (λ x. Positive (f x)) xs
    → Positive (sum f xs)
positive-sum f [] h e = absurd (omega arith)
positive-sum f (x ∷ []) h e = rw (+ℤ_idr (f x)) e.0
positive-sum f (x ∷ y ∷ xs) h e = positive-add e.0 (positive-sum f (y ∷ xs) (omega arith) e.1)

-- ---- hooks of length 1
Plus : Hook Digits → Type 0
Plus hook = hook.minus ≡ false

plus-first : (ds : Digits) → Each Plus (hook_over [] ds)
unfolding Plus
plus-first [] = tt
plus-first (false ∷ ds) = tt
plus-first (true ∷ ds) = (refl, tt)

plus : (ds : Digits) → Each Plus (hooks 1 ds)
unfolding Plus
plus [] = rw (hooks-none 1) tt
plus (true ∷ ds) = rw (hooks-one 1 ds) (each_map Plus Plus (led true) (hooks 1 ds) (λ hook e. e) (plus ds))
plus (false ∷ ds) = rw (hooks-zero 0 ds)
    (each_append Plus (hook_over [] ds) _ (plus-first ds)
    (each_map Plus Plus (led false) (hooks 1 ds) (λ hook e. e) (plus ds)))

-- a zero and a one behind it have a zero and a one side by side between them
corner : (ds : Digits) → 0 < pairs ds → 0 < length (hooks 1 ds)
corner [] h = absurd (omega arith)
corner (true ∷ ds) h = rw (hooks-one 1 ds, length-map (hooks 1 ds) (led true)) (corner ds h)
corner (false ∷ []) h = absurd (omega arith)
corner (false ∷ true ∷ ds) h = rw (hooks-zero 0 (true ∷ ds)) (omega arith)
corner (false ∷ false ∷ ds) h =
    rw (hooks-zero 0 (false ∷ ds), length-map (hooks 1 (false ∷ ds)) (led false)) (corner (false ∷ ds) (omega arith))

-- ---- characters on (1^n)
AllPositive : ℕ → Type 0
AllPositive n = (ds : Digits) → degree (rows ds) ≡ n → Positive (rows ds on replicate n 1)

positive-next : (n : ℕ) → AllPositive n → AllPositive (suc n)
unfolding AllPositive Plus
positive-next n below ds e =
    rw (hook-rule 1 (replicate (suc n) 1) (ones-no-zero (suc n)) (λ z. omega arith) ds)
    (positive-sum _ (hooks 1 ds) (corner ds (omega (arith, degree-pairs ds)))
    (each_same _ _ (hooks 1 ds) term-positive (each_both (Exchange 1 ds) Plus (hooks 1 ds) (exchanges 1 ds) (plus ds))))
  where
    term-positive : (hook : Hook Digits) → Exchange 1 ds hook × (hook.minus ≡ false)
        → Positive (signed hook.minus (rows (shifted hook.leaves) on replicate n 1))
    term-positive hook t =
        rw t.1 (below (shifted hook.leaves) (omega (arith, exchange-degree 1 ds hook t.0)))

all-positive : (n : ℕ) → AllPositive n
unfolding AllPositive character
all-positive zero ds e = rw (no-degree (rows ds) (rows-partition ds) e) (record { before = 0; is = refl })
all-positive (suc n) ds e = positive-next n (all-positive n) ds e

pub degree-positive : (w : ℕ) → Positive (character_degree (shape_of w))
unfolding AllPositive
degree-positive w = all-positive (degree (shape_of w)) (digits width w) refl

pub degree-bounded : (w : ℕ) → nat_abs (character_degree (shape_of w)) ≤ factorial (degree (shape_of w))
degree-bounded w =
    let n : ℕ = degree (shape_of w) in
    rw (ones-degree n) at (word-bounded w (replicate n 1) (ones-no-zero n) (sym (ones-degree n)))

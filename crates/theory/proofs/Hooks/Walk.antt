-- Hooks by a walk over the digits (document 01, "Hook of length h"): those of the first digit, then those of the rest.
-- The laws that go digit by digit rest on this.
--   led d hook               the hook with the digit d in front of what it leaves
--   hook_over between after   behind a zero: a hook if `after` begins with a one; the zero and that one are exchanged
use Rattle.std.specs.Prelude.{◌≡◌, refl, ◌≤◌, ◌&&◌, ◌∷◌, ◌++◌, ◌+◌, ◌-◌}
use Rattle.std.proofs.lemmas.List.{map-append, set_split}
use Rattle.std.proofs.Common.{add-zero, arith, drop_of_length-le, drop-cons}
use Rattle.std.proofs.Math.Decide.{dec_lt}
use Rattle.std.proofs.Math.ListN.{get_or-eq_default}
use Rattle.theory.specs.Basics.{Bool, true, false, not, cond, List, [], map, take, drop, get_or}
use Rattle.theory.specs.Basics.{length, ℕ, zero, suc, odd, joined, up_from}
use Rattle.theory.specs.Digits.{Digits, zeros}
use Rattle.theory.specs.Hooks.{Hook, hook_at, hooks}

abbrev pub led : Bool → Hook Digits → Hook Digits
led d hook = record { minus = hook.minus; leaves = d ∷ hook.leaves }

abbrev pub hook_over : Digits → Digits → List (Hook Digits)
hook_over between [] = []
hook_over between (false ∷ after) = []
hook_over between (true ∷ after) =
    record { minus = odd (zeros between); leaves = true ∷ between ++ false ∷ after } ∷ []

-- ---- the hook of the first digit
hook-first : (k : ℕ) (ds : Digits) → hook_at (suc k) (false ∷ ds) 1 ≡ hook_over (take k ds) (drop k ds)
hook-first k ds =
    let a : 1 + suc k - 1 ≡ suc k = omega arith in
    let b : suc k - 1 ≡ k = omega arith in
    simp (a, b)
    (elim (dec_lt k (length ds)) [
      | yes l ↦ simp (drop-cons ds k false l, set_split ds k false l) (begins (get_or ds k false) (take k ds) (drop (suc k) ds))
      | no g ↦
          let l : length ds ≤ k = omega arith in
          rw (drop_of_length-le ds {i = k} l, get_or-eq_default ds false {n = k} l)
    ])
  where
    begins : (d : Bool) (ds after : Digits)
        → cond d (record { minus = odd (zeros ds); leaves = true ∷ ds ++ false ∷ after } ∷ []) []
        ≡ hook_over ds (d ∷ after)
    begins true ds after = refl
    begins false ds after = refl

-- ---- the hooks of the other digits
map-one : {A B : Type 0} (f : A → B) (test : Bool) (x : A) → map f (cond test (x ∷ []) []) ≡ cond test (f x ∷ []) []
map-one f true x = refl
map-one f false x = refl

module _ (d : Bool) (h : ℕ) (ds : Digits) where
  hook-behind : (i : ℕ) → hook_at h (d ∷ ds) (suc (suc i)) ≡ map (led d) (hook_at h ds (suc i))
  hook-behind i =
      let a : suc (suc i) - 1 ≡ suc i = omega arith in
      let b : suc (suc i) + h - 1 ≡ suc (i + h) = omega arith in
      let e : suc i - 1 ≡ i = omega arith in
      let f : suc i + h - 1 ≡ i + h = omega arith in
      rw (a, b, e, f, map-one)

  hooks-behind : (i n : ℕ) → joined (hook_at h (d ∷ ds)) (up_from (suc (suc i)) n)
      ≡ map (led d) (joined (hook_at h ds) (up_from (suc i) n))
  hooks-behind i zero = refl
  hooks-behind i (suc n) = rw (
    hook-behind i,
    hooks-behind (suc i) n,
    map-append (led d) (hook_at h ds (suc i)) (joined (hook_at h ds) (up_from (suc (suc i)) n)),
  )

-- ---- the walk
pub hooks-none : (h : ℕ) → hooks h [] ≡ []
unfolding hooks
hooks-none h = refl

pub hooks-one : (h : ℕ) (ds : Digits) → hooks h (true ∷ ds) ≡ map (led true) (hooks h ds)
unfolding hooks
hooks-one h ds = hooks-behind true h ds 0 (length ds)

pub hooks-zero : (k : ℕ) (ds : Digits)
    → hooks (suc k) (false ∷ ds) ≡ hook_over (take k ds) (drop k ds) ++ map (led false) (hooks (suc k) ds)
unfolding hooks
hooks-zero k ds = rw (hook-first k ds, hooks-behind false (suc k) ds 0 (length ds))

-- no digit is a zero and a one
pub no_length : (ds : Digits) → hooks 0 ds ≡ []
unfolding hooks
no_length ds = go (up_from 1 (length ds))
  where
    never : (d : Bool) (hook : Hook Digits) → cond (not d && d) (hook ∷ []) [] ≡ []
    never true hook = refl
    never false hook = refl

    go : (ns : List ℕ) → joined (hook_at 0 ds) ns ≡ []
    go [] = refl
    go (i ∷ ns) = rw (add-zero i, never) (go ns)

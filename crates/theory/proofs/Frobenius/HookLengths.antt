-- Frobenius's quotient by hooks: the character degree times the lengths of all hooks is n!. To each zero belong the
-- factor l! and the differences to the later l; of its distances to the digits behind it those to zeros are these
-- differences, and those to ones the lengths of its hooks.
--   to_ones k ds         the product of the distances to the ones of ds, where the first digit has the distance k + 1
--   powers f hs         the product of h^(f h) over the numbers hs
--   hook_powers i n w    each of the n lengths from i, to the power of how many hooks of that length the word w has
use Rattle.std.specs.Prelude.{◌≡◌, refl, ◌≤◌, ◌<◌, ◌∷◌, ◌+◌, ◌-◌, ◌*◌, ◌^◌, ◌*ℤ◌}
use Rattle.std.proofs.Common.{sym, ◌∙◌, ap, ap₂, subst, add-zero, add-suc, pow-suc, mul_assoc, mul-one, one-mul, arith, length-append, drop_of_length-le, pow-add, drop-cons}
use Rattle.std.proofs.lemmas.List.{map-append, length-map}
use Rattle.std.proofs.Math.Nat.{pow-zero, eq_of_mul-eq-mul_right}
use Rattle.std.proofs.Math.Decide.{dec_lt}
use Rattle.theory.specs.Basics.{Bool, true, false, List, [], map, length, take, drop, get_or}
use Rattle.theory.specs.Basics.{replicate, ℕ, zero, suc, pos, nat_abs}
use Rattle.theory.specs.Basics.{total, product, up_from, Each}
use Rattle.theory.proofs.Basics.Laws.{product-append, up-from-one}
use Rattle.theory.specs.Partition.{Parts, first, degree}
use Rattle.theory.specs.Digits.{Digits, digits, width}
use Rattle.theory.proofs.Digits.LastOne.{ones-zeros}
use Rattle.theory.specs.ShapeWord.{rows, pairs, shape_of}
use Rattle.theory.proofs.ShapeWord.Laws.{degree-pairs}
use Rattle.theory.specs.Bounds.{factorial}
use Rattle.theory.proofs.ClassWord.Identity.{ones-no-zero}
use Rattle.theory.specs.Character.{character_degree}
use Rattle.theory.specs.Hooks.{Hook, hooks, hook_word, hook_words}
use Rattle.theory.proofs.Hooks.Walk.{led, hook_over, hooks-none, hooks-one, hooks-zero}
use Rattle.theory.proofs.Hooks.Laws.{Exchange, exchanges}
use Rattle.theory.proofs.Hooks.Degrees.{degree-positive}
use Rattle.theory.proofs.Hooks.Betas.{digit_ls, length-digit_ls, rows-counted}
use Rattle.theory.specs.Frobenius.{differences}
use Rattle.theory.proofs.Frobenius.Spreads.{triangle}
use Rattle.theory.proofs.Frobenius.Falling.{NoRise, factorials}
use Rattle.theory.proofs.Frobenius.Laws.{counted-ones, factorials-positive}

-- ---- the distances of a zero
abbrev to_ones : ℕ → Digits → ℕ
to_ones k [] = 1
to_ones k (true ∷ ds) = suc k * to_ones (suc k) ds
to_ones k (false ∷ ds) = to_ones (suc k) ds

-- those to ones and those to zeros are all of them
distances : (k : ℕ) (ds : Digits)
    → factorial k * (to_ones k ds * product (map ((k + length ds) -◌) (digit_ls ds))) ≡ factorial (k + length ds)
unfolding factorial
distances k [] = rw (one-mul, mul-one, add-zero)
distances k (true ∷ ds) =
    let e : k + suc (length ds) ≡ suc k + length ds = omega arith in
    rw e (regroup (factorial k) (suc k) (to_ones (suc k) ds) _ ∙ distances (suc k) ds)
  where
    regroup : (f s o z : ℕ) → f * ((s * o) * z) ≡ (s * f) * (o * z)
    regroup f s o z = omega arith
distances k (false ∷ ds) =
    let e : k + suc (length ds) ≡ suc k + length ds = omega arith in
    let d : suc k + length ds - length ds ≡ suc k = omega arith in
    subst
    (λ n. factorial k * (to_ones (suc k) ds * ((n - length ds) * product (map (n -◌) (digit_ls ds)))) ≡ factorial n)
    (sym e)
    (rw d (regroup (factorial k) (suc k) (to_ones (suc k) ds) _ ∙ distances (suc k) ds))
  where
    regroup : (f s o z : ℕ) → f * (o * (s * z)) ≡ (s * f) * (o * z)
    regroup f s o z = omega arith

-- ---- lengths to the power of their hooks
abbrev powers : (ℕ → ℕ) → List ℕ → ℕ
powers f hs = product (map (λ h. h ^ f h) hs)

abbrev hooks_of : Digits → ℕ → ℕ
hooks_of ds h = length (hooks h ds)

powers-none : (i n : ℕ) → powers (hooks_of []) (up_from i n) ≡ 1
powers-none i zero = refl
powers-none i (suc n) = rw (hooks-none i, pow-zero i, powers-none (suc i) n)

powers-one : (ds : Digits) (i n : ℕ) → powers (hooks_of (true ∷ ds)) (up_from i n) ≡ powers (hooks_of ds) (up_from i n)
powers-one ds i zero = refl
powers-one ds i (suc n) = rw (hooks-one i ds, length-map (hooks i ds) (led true), powers-one ds (suc i) n)

-- of a zero in front: its own hooks, and those of the digits behind it
powers-zero : (ds : Digits) (i n : ℕ) → length (drop i ds) ≤ n → powers (hooks_of (false ∷ ds)) (up_from (suc i) n)
    ≡ to_ones i (drop i ds) * powers (hooks_of ds) (up_from (suc i) n)
powers-zero ds i zero h = go (drop i ds) h
  where
    go : (es : Digits) → length es ≤ 0 → 1 ≡ to_ones i es * 1
    go [] l = refl
    go (e ∷ es) l = absurd (omega arith)
powers-zero ds i (suc n) h = rw (
  hooks-zero i ds,
  length-append (hook_over (take i ds) (drop i ds)) (map (led false) (hooks (suc i) ds)),
  length-map (hooks (suc i) ds) (led false),
  pow-add (suc i) (length (hook_over (take i ds) (drop i ds))) (hooks_of ds (suc i)),
)
    (elim (dec_lt i (length ds)) [
      | yes l ↦
          let cut = drop-cons ds i false l in
          rw (cut, powers-zero ds (suc i) n (omega (arith, ap length cut)))
          (first (get_or ds i false) (drop (suc i) ds) (suc i ^ hooks_of ds (suc i))
          (powers (hooks_of ds) (up_from (suc (suc i)) n)))
      | no g ↦
          let none = drop_of_length-le ds {i = i} (omega arith) in
          let none-next = drop_of_length-le ds {i = suc i} (omega arith) in
          rw (none, pow-zero (suc i), powers-zero ds (suc i) n (rw none-next (omega arith)), none-next) (omega arith)
    ])
  where
    first : (d : Bool) (es : Digits) (p q : ℕ)
        → suc i ^ length (hook_over (take i ds) (d ∷ es)) * p * (to_ones (suc i) es * q) ≡ to_ones i (d ∷ es) * (p * q)
    first true es p q = rw (pow-suc (suc i) 0, pow-zero (suc i)) (regroup (suc i) (to_ones (suc i) es) p q)
      where
        regroup : (s o p q : ℕ) → 1 * s * p * (o * q) ≡ s * o * (p * q)
        regroup s o p q = omega arith
    first false es p q = rw (pow-zero (suc i)) (regroup (to_ones (suc i) es) p q)
      where
        regroup : (o p q : ℕ) → 1 * p * (o * q) ≡ o * (p * q)
        regroup o p q = omega arith

-- the lengths of all hooks, times the differences, are the factorials
lengths-factorials : (ds : Digits) (n : ℕ) → length ds ≤ n
    → powers (hooks_of ds) (up_from 1 n) * product (differences (digit_ls ds)) ≡ factorials (digit_ls ds)
unfolding factorial
lengths-factorials [] n l = rw (powers-none 1 n)
lengths-factorials (true ∷ ds) n l = rw (powers-one ds 1 n) (lengths-factorials ds n (omega arith))
lengths-factorials (false ∷ ds) n l =
    let ls : List ℕ = digit_ls ds in
    let plain : 0 + length ds ≡ length ds = omega arith in
    let own = rw plain at (distances 0 ds) in
    let to-zeros : ℕ = product (map (length ds -◌) ls) in
    rw (powers-zero ds 0 n (omega arith), product-append (map (length ds -◌) ls) (differences ls))
    (regroup (to_ones 0 ds) (powers (hooks_of ds) (up_from 1 n)) to-zeros (product (differences ls))
    ∙ ap₂ ◌*◌ (sym (one-mul (to_ones 0 ds * to-zeros)) ∙ own)
    (lengths-factorials ds n (omega arith)))
  where
    regroup : (o p z d : ℕ) → o * p * (z * d) ≡ (o * z) * (p * d)
    regroup o p z d = omega arith

-- ---- no hook is longer than the degree
long-none : (h : ℕ) (ds : Digits) → pairs ds < h → hooks h ds ≡ []
long-none h ds l = go (hooks h ds) (exchanges h ds)
  where
    go : (hs : List (Hook Digits)) → Each (Exchange h ds) hs → hs ≡ []
    go [] e = refl
    go (hook ∷ hs) e = absurd (omega (arith, e.0.lower))

-- so that further lengths change nothing
powers-longer : (ds : Digits) (n more : ℕ) → pairs ds ≤ n
    → powers (hooks_of ds) (up_from 1 (n + more)) ≡ powers (hooks_of ds) (up_from 1 n)
powers-longer ds n zero l = rw (add-zero n)
powers-longer ds n (suc more) l =
    let f : ℕ → ℕ = λ h. h ^ hooks_of ds h in
    let none : hooks (suc (n + more)) ds ≡ [] = long-none (suc (n + more)) ds (omega arith) in
    ap (λ (k : ℕ). powers (hooks_of ds) (up_from 1 k)) (add-suc n more)
    ∙ ap (λ (hs : List ℕ). product (map f hs)) (up-from-one (n + more))
    ∙ ap product (map-append f (up_from 1 (n + more)) (suc (n + more) ∷ []))
    ∙ product-append (map f (up_from 1 (n + more))) (f (suc (n + more)) ∷ [])
    ∙ rw (none, pow-zero (suc (n + more)), mul-one (powers (hooks_of ds) (up_from 1 (n + more))))
    (powers-longer ds n more l)

-- ---- the l of digits
ls-total : (ds : Digits) → total (digit_ls ds) ≡ pairs ds + triangle (length (digit_ls ds))
ls-total [] = refl
ls-total (true ∷ ds) = ls-total ds
ls-total (false ∷ ds) = omega (arith, length-digit_ls ds, ones-zeros ds, ls-total ds)

ls-first : (ds : Digits) → first (digit_ls ds) ≤ length ds
ls-first [] = omega arith
ls-first (true ∷ ds) = omega (arith, ls-first ds)
ls-first (false ∷ ds) = omega arith

ls-no-rise : (ds : Digits) → NoRise (digit_ls ds)
ls-no-rise [] = tt
ls-no-rise (true ∷ ds) = ls-no-rise ds
ls-no-rise (false ∷ ds) = (ls-first ds, ls-no-rise ds)

-- ---- the character degree
abbrev pub hook_powers : ℕ → ℕ → ℕ → ℕ
hook_powers i n w = product (map (λ h. h ^ length (hook_words h w)) (up_from i n))

powers-words : (w i n : ℕ) → hook_powers i n w ≡ powers (hooks_of (digits width w)) (up_from i n)
unfolding hook_words
powers-words w i zero = refl
powers-words w i (suc n) = rw (length-map (hooks i (digits width w)) hook_word, powers-words w (suc i) n)

-- a common factor goes
cancelled : (m p d n f : ℕ) → p * d ≡ f → 0 < f → m * f ≡ n * d → m * p ≡ n
cancelled m p zero n f e h g = absurd (omega (arith, e))
cancelled m p (suc d) n f e h g = eq_of_mul-eq-mul_right (suc d) (omega arith) (m * p) n
    (mul_assoc m p (suc d) ∙ ap (λ (k : ℕ). m * k) e ∙ g)

-- the character degree times the lengths of all hooks is n!
pub hook-lengths : (w : ℕ) → nat_abs (character_degree (shape_of w)) * hook_powers 1 (degree (shape_of w)) w
    ≡ factorial (degree (shape_of w))
hook-lengths w =
    let ds : Digits = digits width w in
    let n : ℕ = degree (rows ds) in
    let ls : List ℕ = digit_ls ds in
    let c : Parts = replicate n 1 in
    let (m, e) = at_least w in
    let whole : m * factorials ls ≡ factorial n * product (differences ls) =
    ap nat_abs
    (ap (λ z. z *ℤ pos (factorials ls)) (sym e ∙ rows-counted c (ones-no-zero n) ds)
    ∙ counted-ones n ls (ls-no-rise ds) (omega (arith, ls-total ds, degree-pairs ds))) in
    let powered : hook_powers 1 n w * product (differences ls) ≡ factorials ls =
    rw (powers-words w 1 n, ← (powers-longer ds n (length ds) (omega (arith, degree-pairs ds))))
    (lengths-factorials ds (n + length ds) (omega arith)) in
    rw e (cancelled m (hook_powers 1 n w) (product (differences ls)) (factorial n) (factorials ls) powered
    (factorials-positive ls) whole)
  where
    at_least : (w : ℕ) → (m : ℕ) × (character_degree (shape_of w) ≡ pos m)
    at_least w = let d = degree-positive w in (suc d.before, d.is)

-- The hooks of the flipped digits are the hooks flipped: the zeros between become the ones between, and both together
-- are one fewer than the length. So the sign of a hook of length k + 1 is turned k times.
--   together f hs     what the hooks hs count with their signs, where digits ds count f ds
--   first_hook d ds    the hook of length k + 1 of a digit d in front of ds, if there is one
--   across f d ds e   what the hook of d and e with ds between them counts, if it has that length
--   last_hook f ds e   what the hook of a digit e behind ds counts: flipped, it is a first hook
use Rattle.std.specs.Prelude.{◌≡◌, refl, ◌∷◌, ◌++◌, ◌+◌, ◌+ℤ◌}
use Rattle.std.proofs.Common.{sym, ◌∙◌, ap, append_assoc, arith, eq-eqb, ne_eqb, length-append, drop_of_length-le, drop-cons, take_at, drop_at}
use Rattle.std.proofs.Math.Path.{fun_ext}
use Rattle.std.proofs.Math.Bool.{not-not}
use Rattle.std.proofs.Math.Decide.{ℕ_discrete, dec_lt}
use Rattle.std.proofs.Math.Seq.{drop-nil}
use Rattle.std.proofs.lemmas.List.{take-append-le, drop-append-le}
use Rattle.std.proofs.Math.IntN.{+ℤ_idl, +ℤ_idr}
use Rattle.theory.specs.Basics.{Bool, true, false, not, cond, List, [], map, take, drop}
use Rattle.theory.specs.Basics.{length, get_or, ℕ, suc, ℤ, pos, ◌=?◌, odd, sum, signed}
use Rattle.theory.proofs.Basics.Laws.{sum-append, sum-map}
use Rattle.theory.specs.Basics.Integers.{sums}
use Rattle.theory.proofs.Basics.Integers.{signed-zero, signed-sum, signed_back}
use Rattle.theory.specs.Digits.{Digits, ones, zeros}
use Rattle.theory.proofs.Digits.LastOne.{ones-zeros}
use Rattle.theory.proofs.ShapeWord.Conjugate.{flipped, flipped-front, flipped-end, flipped-twice}
use Rattle.theory.proofs.ShapeWord.Conjugate.{length-flipped, zeros-flipped}
use Rattle.theory.specs.Hooks.{Hook, hooks}
use Rattle.theory.proofs.Hooks.Walk.{led, hook_over, hooks-none, hooks-one, hooks-zero}

abbrev pub together : (Digits → ℤ) → List (Hook Digits) → ℤ
together f hs = sum (λ hook. signed hook.minus (f hook.leaves)) hs

pub together-same : (f g : Digits → ℤ) (hs : List (Hook Digits)) → ((es : Digits) → f es ≡ g es)
    → together f hs ≡ together g hs
together-same f g hs e = ap (λ f. together f hs) (fun_ext e)

module _ (k : ℕ) where
  abbrev first_hook : Bool → Digits → List (Hook Digits)
  first_hook true ds = []
  first_hook false ds = hook_over (take k ds) (drop k ds)

  hooks-front : (f : Digits → ℤ) (d : Bool) (ds : Digits) → together f (hooks (suc k) (d ∷ ds))
      ≡ together f (first_hook d ds) +ℤ together (λ es. f (d ∷ es)) (hooks (suc k) ds)
  hooks-front f true ds = rw (hooks-one (suc k) ds) (sum-map _ (led true) (hooks (suc k) ds) ∙ sym (+ℤ_idl _))
  hooks-front f false ds = rw (
    hooks-zero k ds,
    sum-append _ (first_hook false ds) (map (led false) (hooks (suc k) ds)),
    sum-map _ (led false) (hooks (suc k) ds),
  )

  -- ---- a digit more at the end: the first hook is as before, or it goes across
  abbrev across : (Digits → ℤ) → Bool → Digits → Bool → ℤ
  across f true ds e = pos 0
  across f false ds e = cond (length ds =? k) (together f (hook_over ds (e ∷ []))) (pos 0)

  first-end : (f : Digits → ℤ) (d : Bool) (ds : Digits) (e : Bool) → together f (first_hook d (ds ++ (e ∷ [])))
      ≡ together (λ es. f (es ++ (e ∷ []))) (first_hook d ds) +ℤ across f d ds e
  first-end f true ds e = refl
  first-end f false ds e = elim (dec_lt k (length ds)) [
    | yes l ↦ rw (
      take-append-le k ds (e ∷ []) (omega arith),
      drop-append-le k ds (e ∷ []) (omega arith),
      drop-cons ds k false l,
      ne_eqb (length ds) k (λ q. omega arith),
    )
        (inside (take k ds) (get_or ds k false) (drop (suc k) ds))
    | no g ↦ rw (drop_of_length-le ds {i = k} (omega arith)) (elim (ℕ_discrete (length ds) k) [
      | yes q ↦ rw (take_at ds (e ∷ []) k q, drop_at ds (e ∷ []) k q, eq-eqb (length ds) k q) (sym (+ℤ_idl _))
      | no n ↦
          let l = length-append ds (e ∷ []) in
          rw (drop_of_length-le (ds ++ (e ∷ [])) {i = k} (omega arith), ne_eqb (length ds) k n)
    ])
  ]
    where
      inside : (b : Digits) (d : Bool) (a : Digits) → together f (hook_over b (d ∷ a ++ (e ∷ [])))
          ≡ together (λ es. f (es ++ (e ∷ []))) (hook_over b (d ∷ a)) +ℤ pos 0
      inside b true a = rw (append_assoc b (false ∷ a) (e ∷ [])) (sym (+ℤ_idr _))
      inside b false a = refl

  across-zero : (f : Digits → ℤ) (d : Bool) (ds : Digits) → across f d ds false ≡ pos 0
  across-zero f true ds = refl
  across-zero f false ds = elim (length ds =? k) as (λ b. cond b (pos 0) (pos 0) ≡ pos 0) [ true ↦ refl | false ↦ refl ]

  across-flipped : (f : Digits → ℤ) (d : Bool) (ds : Digits) (e : Bool)
      → across f d ds e ≡ signed (odd k) (across (λ es. f (flipped es)) (not e) (flipped ds) (not d))
  across-flipped f true ds e = rw (across-zero (λ es. f (flipped es)) (not e) (flipped ds)) (sym (signed-zero (odd k)))
  across-flipped f false ds false = across-zero f false ds ∙ sym (signed-zero (odd k))
  across-flipped f false ds true = elim (ℕ_discrete (length ds) k) [
    | yes q ↦
        let all : zeros ds + ones ds ≡ k = omega (arith, ones-zeros ds) in
        rw (
          length-flipped ds,
          eq-eqb (length ds) k q,
          zeros-flipped ds,
          flipped-end (true ∷ flipped ds) false,
          flipped-front true (flipped ds),
          flipped-twice ds,
          ← all,
        )
        (simp +ℤ_idr (sym (signed_back (zeros ds) (ones ds) (f (true ∷ ds ++ (false ∷ []))))))
    | no n ↦ rw (length-flipped ds, ne_eqb (length ds) k n) (sym (signed-zero (odd k)))
  ]

  -- ---- the hook of the last digit
  abbrev last_hook : (Digits → ℤ) → Digits → Bool → ℤ
  last_hook f ds e = signed (odd k) (together (λ es. f (flipped es)) (first_hook (not e) (flipped ds)))

  last-front : (f : Digits → ℤ) (d : Bool) (ds : Digits) (e : Bool)
      → last_hook f (d ∷ ds) e ≡ last_hook (λ es. f (d ∷ es)) ds e +ℤ across f d ds e
  last-front f d ds e = rw (
    flipped-front d ds,
    first-end (λ es. f (flipped es)) (not e) (flipped ds) (not d),
    signed-sum,
    ← across-flipped f d ds e,
    together-same (λ es. f (flipped (es ++ (not d ∷ [])))) (λ es. f (d ∷ flipped es)) (first_hook (not e) (flipped ds))
        (λ es. ap f (flipped-end es (not d) ∙ ap (λ b. b ∷ flipped es) (not-not d))),
  )

  hooks-end : (f : Digits → ℤ) (ds : Digits) (e : Bool) → together f (hooks (suc k) (ds ++ (e ∷ [])))
      ≡ last_hook f ds e +ℤ together (λ es. f (es ++ (e ∷ []))) (hooks (suc k) ds)
  hooks-end f [] e = rw (hooks-front f e [], hooks-none (suc k), none e, none (not e), signed-zero (odd k))
    where
      none : (d : Bool) → first_hook d [] ≡ []
      none true = refl
      none false = rw (drop-nil k)
  hooks-end f (d ∷ ds) e = rw (
    hooks-front f d (ds ++ (e ∷ [])),
    first-end f d ds e,
    hooks-end (λ es. f (d ∷ es)) ds e,
    hooks-front (λ es. f (es ++ (e ∷ []))) d ds,
    last-front f d ds e,
  )
      (simp sums)

  -- ---- the hooks of the flipped digits
  pub hooks-flipped : (f : Digits → ℤ) (ds : Digits) → together f (hooks (suc k) (flipped ds))
      ≡ signed (odd k) (together (λ es. f (flipped es)) (hooks (suc k) ds))
  hooks-flipped f [] = rw (hooks-none (suc k)) (sym (signed-zero (odd k)))
  hooks-flipped f (d ∷ ds) = rw (
    flipped-front d ds,
    hooks-end f (flipped ds) (not d),
    hooks-flipped (λ es. f (es ++ (not d ∷ []))) ds,
    not-not d,
    flipped-twice ds,
    hooks-front (λ es. f (flipped es)) d ds,
    signed-sum,
    together-same (λ es. f (flipped es ++ (not d ∷ []))) (λ es. f (flipped (d ∷ es))) (hooks (suc k) ds)
        (λ es. ap f (sym (flipped-front d es))),
  )

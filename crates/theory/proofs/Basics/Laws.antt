-- Laws of the words of Basics.
use Rattle.std.specs.Prelude.{◌≡◌, refl, ◌≤◌, ◌<◌, eqb, ◌&&◌, ◌∷◌, ◌++◌, ◌+◌, ◌*◌, ◌%◌, ◌+ℤ◌}
use Rattle.std.proofs.Common.{sym, ◌∙◌, ap, ap₂, add-zero, add-suc, suc-add, mul_assoc, arith, eqb-true, eq-eqb, length-append}
use Rattle.std.proofs.lemmas.Bool.{false≢true}
use mathlib.Core.List.{append_assoc, append-nil, Memᴰ}
use Rattle.std.proofs.Math.IntN.{+ℤ_idl, +ℤ_assoc}
use Rattle.theory.specs.Basics.{Bool, true, false, not, cond, List, [], map, length, get_or, take}
use Rattle.theory.specs.Basics.{ℕ, zero, suc, ℤ, ◌=?◌, odd, same, keep, count}
use Rattle.theory.specs.Basics.{joined, total, product, sum, up_from}
pub use Rattle.theory.specs.Basics.{Each}

-- ---- tests
pub both : (a b : Bool) → a && b ≡ true → (a ≡ true) × (b ≡ true)
both true b e = (refl, e)
both false b e = absurd (false≢true e)

pub odd-suc : (n : ℕ) → odd (suc n) ≡ not (odd n)
odd-suc n = go (n % 2) (suc n % 2) (omega arith)
  where
    go : (a b : ℕ) → a + b ≡ 1 → eqb b 1 ≡ not (eqb a 1)
    go zero b e =
        let h : b ≡ 1 = omega arith in
        rw h refl
    go (suc zero) b e =
        let h : b ≡ 0 = omega arith in
        rw h refl
    go (suc (suc a)) b e = absurd (omega arith)

-- ---- the same numbers
pub same_lists : (ms ns : List ℕ) → same ms ns ≡ true → ms ≡ ns
same_lists [] [] e = refl
same_lists [] (n ∷ ns) e = absurd (false≢true e)
same_lists (m ∷ ms) [] e = absurd (false≢true e)
same_lists (m ∷ ms) (n ∷ ns) e =
    let h = both (m =? n) (same ms ns) e in
    ap₂ (λ (x : ℕ) (l : List ℕ). x ∷ l) (eqb-true m n h.0) (same_lists ms ns h.1)

pub same_self : (ms : List ℕ) → same ms ms ≡ true
same_self [] = refl
same_self (m ∷ ms) = rw (eq-eqb m m refl) (same_self ms)

-- ---- numbers that go up
up-from-last : (i n : ℕ) → up_from i (suc n) ≡ up_from i n ++ ((i + n) ∷ [])
up-from-last i zero = rw add-zero
up-from-last i (suc n) = rw (add-suc, ← suc-add) (ap (λ ns. i ∷ ns) (up-from-last (suc i) n))

pub up-from-one : (n : ℕ) → up_from 1 (suc n) ≡ up_from 1 n ++ (suc n ∷ [])
up-from-one n =
    let e : 1 + n ≡ suc n = omega arith in
    rw e at (up-from-last 1 n)

-- ---- what holds of each element
module _ {A : Type 0} where
  pub each_append : (P : A → Type 0) (xs ys : List A) → Each P xs → Each P ys → Each P (xs ++ ys)
  each_append P [] ys e f = f
  each_append P (x ∷ xs) ys e f = (e.0, each_append P xs ys e.1 f)

  pub each_same : (P Q : A → Type 0) (xs : List A) → ((x : A) → P x → Q x) → Each P xs → Each Q xs
  each_same P Q [] f e = tt
  each_same P Q (x ∷ xs) f e = (f x e.0, each_same P Q xs f e.1)

  pub each_both : (P Q : A → Type 0) (xs : List A) → Each P xs → Each Q xs → Each (λ x. P x × Q x) xs
  each_both P Q [] e f = tt
  each_both P Q (x ∷ xs) e f = ((e.0, f.0), each_both P Q xs e.1 f.1)

  pub each_member : (P : A → Type 0) (xs : List A) → ((x : A) → Memᴰ x xs → P x) → Each P xs
  each_member P [] e = tt
  each_member P (x ∷ xs) e = (e x (Memᴰ.head refl), each_member P xs (λ y m. e y (Memᴰ.tail m)))

  pub each_of : (P : A → Type 0) (xs : List A) → Each P xs → (x : A) → Memᴰ x xs → P x
  each_of P [] e x m = elim m [ ]
  each_of P (y ∷ xs) e x (Memᴰ.head q) = rw q e.0
  each_of P (y ∷ xs) e x (Memᴰ.tail m) = each_of P xs e.1 x m

  -- ---- counts and totals
  pub count-append : (test : A → Bool) (xs ys : List A) → count test (xs ++ ys) ≡ count test xs + count test ys
  count-append test [] ys = omega arith
  count-append test (x ∷ xs) ys =
      let e = count-append test xs ys in
      elim (test x) as (λ b. length (cond b (x ∷ keep test (xs ++ ys)) (keep test (xs ++ ys)))
      ≡ length (cond b (x ∷ keep test xs) (keep test xs)) + count test ys) [ true ↦ omega arith | false ↦ e ]

  pub total-same : (f : A → ℕ) (n : ℕ) (xs : List A) → Each (λ x. f x ≡ n) xs → total (map f xs) ≡ length xs * n
  total-same f n [] e = omega arith
  total-same f n (x ∷ xs) e = omega (arith, e.0, total-same f n xs e.1)

  -- ---- sums
  pub sum_same : (P : A → Type 0) (f g : A → ℤ) (xs : List A) → ((x : A) → P x → f x ≡ g x) → Each P xs
      → sum f xs ≡ sum g xs
  sum_same P f g [] e h = refl
  sum_same P f g (x ∷ xs) e h = rw (e x h.0, sum_same P f g xs e h.1)

  pub sum-append : (f : A → ℤ) (xs ys : List A) → sum f (xs ++ ys) ≡ sum f xs +ℤ sum f ys
  sum-append f [] ys = sym (+ℤ_idl (sum f ys))
  sum-append f (x ∷ xs) ys = ap (λ z. f x +ℤ z) (sum-append f xs ys) ∙ sym (+ℤ_assoc (f x) (sum f xs) (sum f ys))

-- ---- products
pub product-append : (ms ns : List ℕ) → product (ms ++ ns) ≡ product ms * product ns
product-append [] ns = omega arith
product-append (m ∷ ms) ns = rw (product-append ms ns) (sym (mul_assoc m (product ms) (product ns)))

-- a sign put before a sum
module _ {A B : Type 0} where
  pub each_map : (P : A → Type 0) (Q : B → Type 0) (f : A → B) (xs : List A) → ((x : A) → P x → Q (f x)) → Each P xs
      → Each Q (map f xs)
  each_map P Q f [] g e = tt
  each_map P Q f (x ∷ xs) g e = (g x e.0, each_map P Q f xs g e.1)

  pub each-mapped : (Q : B → Type 0) (f : A → B) (xs : List A) → Each Q (map f xs) → Each (λ x. Q (f x)) xs
  each-mapped Q f [] e = tt
  each-mapped Q f (x ∷ xs) e = (e.0, each-mapped Q f xs e.1)

  pub map_same : (P : A → Type 0) (f g : A → B) (xs : List A) → ((x : A) → P x → f x ≡ g x) → Each P xs
      → map f xs ≡ map g xs
  map_same P f g [] e h = refl
  map_same P f g (x ∷ xs) e h = rw (e x h.0, map_same P f g xs e h.1)

  pub sum-map : (f : B → ℤ) (g : A → B) (xs : List A) → sum f (map g xs) ≡ sum (λ x. f (g x)) xs
  sum-map f g [] = refl
  sum-map f g (x ∷ xs) = ap (λ z. f (g x) +ℤ z) (sum-map f g xs)

-- ---- lists joined one after the other, and the first of them
module _ {A B : Type 0} (f : A → List B) where
  pub joined-next : (xs : List A) (d : A) (i : ℕ) → i < length xs
      → joined f (take (suc i) xs) ≡ joined f (take i xs) ++ f (get_or xs i d)
  joined-next [] d i h = absurd (omega arith)
  joined-next (x ∷ xs) d zero h = append-nil (f x)
  joined-next (x ∷ xs) d (suc i) h = rw (joined-next xs d i (omega arith)) (sym (append_assoc (f x) _ _))

  pub joined-front : (xs : List A) (n : ℕ) → length (joined f (take n xs)) ≤ length (joined f xs)
  joined-front xs zero = omega arith
  joined-front [] (suc n) = omega arith
  joined-front (x ∷ xs) (suc n) = simp length-append (omega (arith, joined-front xs n))

  pub joined_length : (k : ℕ) (xs : List A) → Each (λ x. length (f x) ≤ k) xs → length (joined f xs) ≤ length xs * k
  joined_length k [] e = omega arith
  joined_length k (x ∷ xs) e = simp length-append (omega (arith, e.0, joined_length k xs e.1))

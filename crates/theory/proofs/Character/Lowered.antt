-- Sums over struck lists, and what of a function of lists they keep.
--   lowered m f l    the sum of f over the lists that have m less in one entry of l
use Rattle.std.specs.Prelude.{◌≡◌, ◌∷◌, ◌++◌, ◌+◌, ◌+ℤ◌, ◌-ℤ◌}
use Rattle.std.proofs.Math.Path.{refl, fun_ext}
use Rattle.std.proofs.Common.{ap}
use Rattle.std.proofs.Math.IntN.{neg_ℤ-+ℤ, +ℤ_idl}
use Rattle.theory.specs.Basics.{List, [], ℕ, suc, sum}
use Rattle.theory.specs.Basics.{ℤ, pos, negsuc, neg_ℤ}
use Rattle.theory.proofs.Basics.Laws.{sum-map}
use Rattle.theory.specs.Character.{struck}
use Rattle.theory.specs.Basics.Integers.{sums, signed-sums}
use Rattle.theory.proofs.Basics.Integers.{swap-back, negsuc-less}
use Rattle.theory.proofs.Character.Alternating.{Alternating, here, later, alternating-after, ZeroBelow}
use Rattle.theory.proofs.Character.Alternating.{raised}

unfoldable pub lowered : ℕ → (List ℤ → ℤ) → List ℤ → ℤ
lowered m f l = sum f (struck m l)

pub lowered-cons : (m : ℕ) (f : List ℤ → ℤ) (x : ℤ) (xs : List ℤ)
    → lowered m f (x ∷ xs) ≡ f ((x -ℤ pos m) ∷ xs) +ℤ lowered m (λ t. f (x ∷ t)) xs
unfolding lowered
lowered-cons m f x xs = ap (λ z. f ((x -ℤ pos m) ∷ xs) +ℤ z) (sum-map f (λ l. x ∷ l) (struck m xs))

lowered-same : (m : ℕ) {f g : List ℤ → ℤ} (l : List ℤ) → ((t : List ℤ) → f t ≡ g t) → lowered m f l ≡ lowered m g l
lowered-same m l e = ap (λ f. lowered m f l) (fun_ext e)

-- ---- sums of sums, of opposites and of zeros
module _ {A : Type 0} where
  sum-sum : (f g : A → ℤ) (xs : List A) → sum (λ x. f x +ℤ g x) xs ≡ sum f xs +ℤ sum g xs
  sum-sum f g [] = refl
  sum-sum f g (x ∷ xs) = rw (sum-sum f g xs) (simp sums)

  sum-opposite : (f : A → ℤ) (xs : List A) → sum (λ x. neg_ℤ (f x)) xs ≡ neg_ℤ (sum f xs)
  sum-opposite f [] = refl
  sum-opposite f (x ∷ xs) = rw (sum-opposite f xs) (simp neg_ℤ-+ℤ)

  sum-zero : (xs : List A) → sum (λ x. pos 0) xs ≡ pos 0
  sum-zero [] = refl
  sum-zero (x ∷ xs) = rw (sum-zero xs)

lowered-sum : (m : ℕ) (f g : List ℤ → ℤ) (l : List ℤ) → lowered m (λ t. f t +ℤ g t) l ≡ lowered m f l +ℤ lowered m g l
unfolding lowered
lowered-sum m f g l = sum-sum f g (struck m l)

lowered-opposite : (m : ℕ) (f : List ℤ → ℤ) (l : List ℤ) → lowered m (λ t. neg_ℤ (f t)) l ≡ neg_ℤ (lowered m f l)
unfolding lowered
lowered-opposite m f l = sum-opposite f (struck m l)

lowered-zero : (m : ℕ) (l : List ℤ) → lowered m (λ t. pos 0) l ≡ pos 0
unfolding lowered
lowered-zero m l = sum-zero (struck m l)

-- ---- two lowerings in either order
lowered-twice : (a b : ℕ) (f : List ℤ → ℤ) (x : ℤ) (xs : List ℤ) → lowered a (lowered b f) (x ∷ xs)
    ≡ (f ((x -ℤ pos a -ℤ pos b) ∷ xs) +ℤ lowered b (λ t. f ((x -ℤ pos a) ∷ t)) xs)
    +ℤ (lowered a (λ t. f ((x -ℤ pos b) ∷ t)) xs +ℤ lowered a (lowered b (λ t. f (x ∷ t))) xs)
lowered-twice a b f x xs = rw (
  lowered-cons a (lowered b f) x xs,
  lowered-cons b f (x -ℤ pos a) xs,
  lowered-same a xs (λ t. lowered-cons b f x t),
  lowered-sum a (λ t. f ((x -ℤ pos b) ∷ t)) (lowered b (λ t. f (x ∷ t))) xs,
)

pub lowered-lowered : (a b : ℕ) (f : List ℤ → ℤ) (l : List ℤ) → lowered a (lowered b f) l ≡ lowered b (lowered a f) l
lowered-lowered a b f [] = unfold lowered in refl
lowered-lowered a b f (x ∷ xs) =
    rw (
      lowered-twice a b f x xs,
      lowered-twice b a f x xs,
      swap-back x (neg_ℤ (pos a)) (neg_ℤ (pos b)),
      lowered-lowered a b (λ t. f (x ∷ t)) xs,
    )
    (simp sums)

-- ---- lowering keeps each of the three
pub lowered-alternating : (m : ℕ) (f : List ℤ → ℤ) → Alternating f → Alternating (lowered m f)
lowered-alternating m f a l k (here x y t) =
    rw (
      lowered-cons m f y (x ∷ t),
      lowered-cons m (λ u. f (y ∷ u)) x t,
      lowered-cons m f x (y ∷ t),
      lowered-cons m (λ u. f (x ∷ u)) y t,
      a _ _ (here x (y -ℤ pos m) t),
      a _ _ (here (x -ℤ pos m) y t),
      lowered-same m t (λ u. a _ _ (here x y u)),
      lowered-opposite m (λ u. f (x ∷ y ∷ u)) t,
    )
    (simp signed-sums)
lowered-alternating m f a l k (later x {l = l₁} {k = k₁} s) = rw (
  lowered-cons m f x k₁,
  lowered-cons m f x l₁,
  a _ _ (later (x -ℤ pos m) s),
  lowered-alternating m (λ t. f (x ∷ t)) (alternating-after f x a) l₁ k₁ s,
  neg_ℤ-+ℤ,
)

pub lowered-zero-below : (m : ℕ) (f : List ℤ → ℤ) → ZeroBelow f → ZeroBelow (lowered m f)
lowered-zero-below m f z [] n q = rw (
  lowered-cons m f (negsuc n) q,
  negsuc-less n m,
  z [] (n + m) q,
  lowered-same m q (λ t. z [] n t),
  lowered-zero m q,
)
lowered-zero-below m f z (x ∷ p) n q = rw (
  lowered-cons m f x (p ++ (negsuc n ∷ q)),
  z ((x -ℤ pos m) ∷ p) n q,
  lowered-zero-below m (λ t. f (x ∷ t)) (λ p n q. z (x ∷ p) n q) p n q,
)

-- of two functions f and g, for f with x + 1 in front stands to g with x in front as f does to g
pub lowered-stable : (m : ℕ) (f g : List ℤ → ℤ) → ZeroBelow f → ((t : List ℤ) → f (raised t) ≡ g t) → (l : List ℤ)
    → lowered (suc m) f (raised l) ≡ lowered (suc m) g l
lowered-stable m f g z s [] =
    rw (lowered-cons (suc m) f (pos 0) [], +ℤ_idl (negsuc m), z [] m []) (unfold lowered in refl)
lowered-stable m f g z s (x ∷ xs) = rw (
  lowered-cons (suc m) f (x +ℤ pos 1) (raised xs),
  lowered-cons (suc m) g x xs,
  swap-back x (pos 1) (negsuc m),
  s ((x -ℤ pos (suc m)) ∷ xs),
  lowered-stable m (λ t. f ((x +ℤ pos 1) ∷ t)) (λ t. g (x ∷ t)) (λ p n q. z ((x +ℤ pos 1) ∷ p) n q) (λ t. s (x ∷ t)) xs,
)

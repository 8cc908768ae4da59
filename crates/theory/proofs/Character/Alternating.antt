-- Functions of lists of whole numbers: three properties that the sum of a class keeps.
--   Swap l k         l and k differ by a swap of neighbours
--   Alternating f    a swap of neighbours turns the sign of f
--   ZeroBelow f      f is zero where an entry is negative
--   raised_by n l     every entry n more; raised l, every entry one more, and a zero behind them
--   Stable f         f of raised l is f of l
use Rattle.std.specs.Prelude.{◌≡◌, ◌∷◌, ◌++◌, ◌+ℤ◌}
use Rattle.theory.specs.Basics.{List, [], map, ℕ, ℤ, pos, negsuc, neg_ℤ}
use Rattle.theory.proofs.Basics.Integers.{own-opposite}

pub data Swap : List ℤ → List ℤ → Type 0 where
  here : (x y : ℤ) (l : List ℤ) → Swap (x ∷ y ∷ l) (y ∷ x ∷ l)
  later : (x : ℤ) {l k : List ℤ} → Swap l k → Swap (x ∷ l) (x ∷ k)

abbrev pub Alternating : (List ℤ → ℤ) → Type 0
Alternating f = (l k : List ℤ) → Swap l k → f k ≡ neg_ℤ (f l)

abbrev pub ZeroBelow : (List ℤ → ℤ) → Type 0
ZeroBelow f = (p : List ℤ) (n : ℕ) (q : List ℤ) → f (p ++ (negsuc n ∷ q)) ≡ pos 0

abbrev pub raised_by : ℕ → List ℤ → List ℤ
raised_by n l = map (λ x. x +ℤ pos n) l

abbrev pub raised : List ℤ → List ℤ
raised l = raised_by 1 l ++ (pos 0 ∷ [])

abbrev pub Stable : (List ℤ → ℤ) → Type 0
Stable f = (l : List ℤ) → f (raised l) ≡ f l

pub alternating-after : (f : List ℤ → ℤ) (x : ℤ) → Alternating f → Alternating (λ t. f (x ∷ t))
alternating-after f x a l k s = a (x ∷ l) (x ∷ k) (later x s)

pub swap_at : (p : List ℤ) {l k : List ℤ} → Swap l k → Swap (p ++ l) (p ++ k)
swap_at [] s = s
swap_at (a ∷ p) s = later a (swap_at p s)

pub twice-zero : (f : List ℤ → ℤ) → Alternating f → (p : List ℤ) (x : ℤ) (q : List ℤ) → f (p ++ (x ∷ x ∷ q)) ≡ pos 0
twice-zero f a p x q = own-opposite (f (p ++ (x ∷ x ∷ q))) (a _ _ (swap_at p (here x x q)))

-- Lists of numbers that do not rise: they fall, or two neighbours are alike; and one number of a list that falls, one
-- less.
--   NoRise ls       no number is above the one before it
--   Falls ls        each number is above the one behind it
--   Twin ls         two neighbours are alike
--   stair k         k - 1, .., 1, 0
--   factorials ls   the product of the factorials
--   Less ls a k     k is ls with one a of its numbers one less: 0 became -1, or the list still does not rise
use Rattle.std.specs.Prelude.{◌≡◌, refl, ◌≤◌, ◌<◌, ◌∷◌, ◌++◌, ◌*◌, ◌-ℤ◌}
use Rattle.std.proofs.Common.{◌∙◌, ap, ap₂, subst, mul_assoc, mul_left_comm, arith}
use Rattle.std.proofs.Math.Decide.{ℕ_discrete}
use Rattle.theory.specs.Basics.{List, [], map, length, ℕ, zero, suc, total, product}
use Rattle.theory.specs.Basics.{ℤ, pos, negsuc}
use Rattle.theory.proofs.Basics.Integers.{one-back}
use Rattle.theory.specs.Partition.{first}
use Rattle.theory.specs.Bounds.{factorial}
use Rattle.theory.proofs.Frobenius.Spreads.{Lower, here, later, triangle}

abbrev pub NoRise : List ℕ → Type 0
NoRise [] = Unit {0}
NoRise (l ∷ ls) = (first ls ≤ l) × NoRise ls

abbrev pub Above : ℕ → List ℕ → Type 0
Above l [] = Unit {0}
Above l (m ∷ ls) = m < l

abbrev pub Falls : List ℕ → Type 0
Falls [] = Unit {0}
Falls (l ∷ ls) = Above l ls × Falls ls

pub data Twin : List ℕ → Type 0 where
  twin : (l : ℕ) (ls : List ℕ) → Twin (l ∷ l ∷ ls)
  beyond : (l : ℕ) {ls : List ℕ} → Twin ls → Twin (l ∷ ls)

pub data Kind (ls : List ℕ) : Type 0 where
  falls : Falls ls → Kind ls
  twins : Twin ls → Kind ls

pub kind : (ls : List ℕ) → NoRise ls → Kind ls
kind [] h = falls tt
kind (l ∷ []) h = falls (tt, tt)
kind (l ∷ m ∷ ls) h = go (kind (m ∷ ls) h.1)
  where
    go : Kind (m ∷ ls) → Kind (l ∷ m ∷ ls)
    go (twins t) = twins (beyond l t)
    go (falls f) = elim (ℕ_discrete m l) [
      | yes e ↦ twins (subst (λ z. Twin (z ∷ m ∷ ls)) e (twin m ls))
      | no g ↦ falls (omega (arith, h.0), f)
    ]

first_above : (l : ℕ) (ls : List ℕ) → Above l ls → first ls ≤ l
first_above l [] h = omega arith
first_above l (m ∷ ls) h = omega arith

first_under : (l : ℕ) (ls : List ℕ) → Above (suc l) ls → first ls ≤ l
first_under l [] h = omega arith
first_under l (m ∷ ls) h = omega arith

pub no-rise : (ls : List ℕ) → Falls ls → NoRise ls
no-rise [] f = tt
no-rise (l ∷ ls) f = (first_above l ls f.0, no-rise ls f.1)

-- ---- one number less
abbrev pub factorials : List ℕ → ℕ
factorials ls = product (map factorial ls)

pub data Less (ls : List ℕ) (a : ℤ) (k : List ℤ) : Type 0 where
  below : (p q : List ℤ) → a ≡ pos 0 → k ≡ p ++ (negsuc 0 ∷ q) → Less ls a k
  less : (m : ℕ) (ms : List ℕ) → a ≡ pos (suc m) → k ≡ map pos ms → factorials ls ≡ suc m * factorials ms
      → total ls ≡ suc (total ms) → NoRise ms → first ms ≤ first ls → length ms ≡ length ls → Less ls a k

less-here : (l : ℕ) (ls : List ℕ) → Falls (l ∷ ls) → Less (l ∷ ls) (pos l) ((pos l -ℤ pos 1) ∷ map pos ls)
unfolding factorial
less-here zero ls f = below [] (map pos ls) refl refl
less-here (suc l) ls f = less l (l ∷ ls) refl (ap (λ z. z ∷ map pos ls) (one-back l))
    (mul_assoc (suc l) (factorial l) (factorials ls)) (omega arith)
    (first_under l ls f.0, no-rise ls f.1) (omega arith) refl

less-later : (l : ℕ) (ls : List ℕ) → Falls (l ∷ ls) → {a : ℤ} {k : List ℤ} → Less ls a k
    → Less (l ∷ ls) a (pos l ∷ k)
less-later l ls f (below p q e g) = below (pos l ∷ p) q e (ap (λ u. pos l ∷ u) g)
less-later l ls f (less m ms e g h t n u s) = less m (l ∷ ms) e (ap (λ u. pos l ∷ u) g)
    (ap (λ z. factorial l * z) h ∙ mul_left_comm (factorial l) (suc m) (factorials ms)) (omega arith)
    (omega (arith, first_above l ls f.0), n) (omega arith) (ap suc s)

pub one_less : (ls : List ℕ) → Falls ls → {a : ℤ} {k : List ℤ} → Lower (map pos ls) a k → Less ls a k
one_less [] f s = elim s [ ]
one_less (l ∷ ls) f (here z w) = less-here l ls f
one_less (l ∷ ls) f (later z s) = less-later l ls f (one_less ls f.1 s)

-- ---- k numbers that fall are k - 1, .., 1, 0, or have a greater total
unfoldable pub stair : ℕ → List ℕ
stair zero = []
stair (suc k) = k ∷ stair k

falls-long : (l : ℕ) (ls : List ℕ) → Falls (l ∷ ls) → length ls ≤ l
falls-long l [] f = omega arith
falls-long l (m ∷ ls) f = omega (arith, falls-long m ls f.1, f.0)

falls-total : (ls : List ℕ) → Falls ls → triangle (length ls) ≤ total ls
falls-total [] f = omega arith
falls-total (l ∷ ls) f = omega (arith, falls-long l ls f, falls-total ls f.1)

pub falls-stair : (ls : List ℕ) → Falls ls → total ls ≡ triangle (length ls) → ls ≡ stair (length ls)
unfolding stair
falls-stair [] f e = refl
falls-stair (l ∷ ls) f e =
    let long = falls-long l ls f in
    let large = falls-total ls f.1 in
    ap₂ (λ (a : ℕ) (b : List ℕ). a ∷ b) (omega (arith, e)) (falls-stair ls f.1 (omega (arith, e)))

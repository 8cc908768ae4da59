-- The product of the differences of whole numbers, and what it adds up to when each number in turn is one less:
--   the sum of V(l') is k V(l), and that of a V(l'), where a became a - 1, is (the sum of l - k (k - 1) / 2) V(l).
-- Both come from a third, in which a further number x is free: where D(x, l) is the product of x - y over the y of l,
--   the sum of (D(x, l') - D(x, l)) V(l') is (D(x, l) - D(x - 1, l)) V(l).
--   spread x l      D(x, l)
--   spreads l       V(l): the product of each number less each later one
--   triangle k      0 + 1 + .. + (k - 1)
--   Lower l a k     k is l with one a of its numbers one less
--   over g l        the sum of g a k over these k
use Rattle.std.specs.Prelude.{◌≡◌, ◌∷◌, ◌+◌, ◌+ℤ◌, ◌-ℤ◌, ◌*ℤ◌}
use Rattle.std.proofs.Math.Path.{refl}
use Rattle.std.proofs.Common.{sym, ◌∙◌, ap, ap₂, arith}
use Rattle.std.proofs.Math.IntN.{*ℤ-zero}
use Rattle.theory.specs.Basics.{List, [], length, ℕ, zero, suc, sum}
use Rattle.theory.specs.Basics.{ℤ, pos, neg_ℤ}
use Rattle.theory.specs.Basics.Integers.{sums}
use Rattle.theory.proofs.Basics.Integers.Products.{times-sum}
use Rattle.theory.proofs.Basics.Integers.Ring.{Expr, var, num, ◌⊕◌, ◌⊝◌, ◌⊗◌, ⊖, ring}
use Rattle.theory.proofs.Character.Lowered.{lowered, lowered-cons}

abbrev pub spread : ℤ → List ℤ → ℤ
spread x [] = pos 1
spread x (y ∷ l) = (x -ℤ y) *ℤ spread x l

abbrev pub spreads : List ℤ → ℤ
spreads [] = pos 1
spreads (x ∷ l) = spread x l *ℤ spreads l

abbrev pub triangle : ℕ → ℕ
triangle zero = 0
triangle (suc k) = k + triangle k

-- ---- one number one less
pub data Lower : List ℤ → ℤ → List ℤ → Type 0 where
  here : (z : ℤ) (l : List ℤ) → Lower (z ∷ l) z ((z -ℤ pos 1) ∷ l)
  later : (z : ℤ) {l : List ℤ} {a : ℤ} {k : List ℤ} → Lower l a k → Lower (z ∷ l) a (z ∷ k)

abbrev pub over : (ℤ → List ℤ → ℤ) → List ℤ → ℤ
over g [] = pos 0
over g (z ∷ l) = g z ((z -ℤ pos 1) ∷ l) +ℤ over (λ a k. g a (z ∷ k)) l

pub over-same : (g h : ℤ → List ℤ → ℤ) (l : List ℤ) → ((a : ℤ) (k : List ℤ) → Lower l a k → g a k ≡ h a k)
    → over g l ≡ over h l
over-same g h [] e = refl
over-same g h (z ∷ l) e = ap₂ ◌+ℤ◌ (e z ((z -ℤ pos 1) ∷ l) (here z l))
    (over-same (λ a k. g a (z ∷ k)) (λ a k. h a (z ∷ k)) l (λ a k s. e a (z ∷ k) (later z s)))

over-sum : (g h : ℤ → List ℤ → ℤ) (l : List ℤ) → over (λ a k. g a k +ℤ h a k) l ≡ over g l +ℤ over h l
over-sum g h [] = refl
over-sum g h (z ∷ l) = rw (over-sum (λ a k. g a (z ∷ k)) (λ a k. h a (z ∷ k)) l) (simp sums)

pub over-times : (c : ℤ) (g : ℤ → List ℤ → ℤ) (l : List ℤ) → over (λ a k. c *ℤ g a k) l ≡ c *ℤ over g l
over-times c g [] = sym (*ℤ-zero c)
over-times c g (z ∷ l) = rw (over-times c (λ a k. g a (z ∷ k)) l)
    (sym (times-sum c (g z ((z -ℤ pos 1) ∷ l)) (over (λ a k. g a (z ∷ k)) l)))

pub lowered-over : (f : List ℤ → ℤ) (l : List ℤ) → lowered 1 f l ≡ over (λ a k. f k) l
lowered-over f [] = unfold lowered in refl
lowered-over f (z ∷ l) = rw (lowered-cons 1 f z l, lowered-over (λ k. f (z ∷ k)) l)

-- ---- what becomes of D: in the expressions, the variables 0, 1 and 2 are x, y and z
-- (x - a) (D(x, k) - D(x, l)) = D(x, l)
one-factor : (x : ℤ) {l : List ℤ} {a : ℤ} {k : List ℤ} → Lower l a k
    → (x -ℤ a) *ℤ (spread x k -ℤ spread x l) ≡ spread x l
one-factor x (here z l) = ring (x ∷ z ∷ spread x l ∷ [])
    ((var 0 ⊝ var 1) ⊗ ((var 0 ⊝ (var 1 ⊝ num (pos 1))) ⊗ var 2 ⊝ (var 0 ⊝ var 1) ⊗ var 2))
    ((var 0 ⊝ var 1) ⊗ var 2) refl
one-factor x (later z {l = l} {a = a} {k = k} s) =
    ring (x ∷ z ∷ a ∷ spread x l ∷ spread x k ∷ [])
    ((var 0 ⊝ var 2) ⊗ ((var 0 ⊝ var 1) ⊗ var 4 ⊝ (var 0 ⊝ var 1) ⊗ var 3))
    ((var 0 ⊝ var 1) ⊗ ((var 0 ⊝ var 2) ⊗ (var 4 ⊝ var 3))) refl
    ∙ ap (λ d. (x -ℤ z) *ℤ d) (one-factor x s)

abbrev x-y : Expr
x-y = var 0 ⊝ var 1

abbrev x-z : Expr
x-z = var 0 ⊝ var 2

abbrev y-z : Expr
y-z = var 1 ⊝ var 2

-- x and y less z - 1
abbrev x-z+1 : Expr
x-z+1 = var 0 ⊝ (var 2 ⊝ num (pos 1))

abbrev y-z+1 : Expr
y-z+1 = var 1 ⊝ (var 2 ⊝ num (pos 1))

two-factors : (x y : ℤ) {l : List ℤ} {a : ℤ} {k : List ℤ} → Lower l a k
    → (x -ℤ y) *ℤ ((spread x k -ℤ spread x l) *ℤ spread y k)
    ≡ spread x l *ℤ (spread y k -ℤ spread y l)
    +ℤ ((x -ℤ y) *ℤ spread y l -ℤ spread y l) *ℤ (spread x k -ℤ spread x l)
two-factors x y (here z l) = ring (x ∷ y ∷ z ∷ spread x l ∷ spread y l ∷ [])
    (x-y ⊗ ((x-z+1 ⊗ var 3 ⊝ x-z ⊗ var 3) ⊗ (y-z+1 ⊗ var 4)))
    ((x-z ⊗ var 3) ⊗ (y-z+1 ⊗ var 4 ⊝ y-z ⊗ var 4)
    ⊕ (x-y ⊗ (y-z ⊗ var 4) ⊝ y-z ⊗ var 4) ⊗ (x-z+1 ⊗ var 3 ⊝ x-z ⊗ var 3)) refl
two-factors x y (later z {l = l} {k = k} s) =
    let numbers : List ℤ = x ∷ y ∷ z ∷ spread x l ∷ spread y l ∷ spread x k ∷ spread y k ∷ [] in
    ring numbers
    (x-y ⊗ ((x-z ⊗ var 5 ⊝ x-z ⊗ var 3) ⊗ (y-z ⊗ var 6)))
    ((x-z ⊗ y-z) ⊗ (x-y ⊗ ((var 5 ⊝ var 3) ⊗ var 6))) refl
    ∙ ap (λ d. (x -ℤ z) *ℤ (y -ℤ z) *ℤ d) (two-factors x y s)
    ∙ ring numbers
    ((x-z ⊗ y-z) ⊗ (var 3 ⊗ (var 6 ⊝ var 4) ⊕ (x-y ⊗ var 4 ⊝ var 4) ⊗ (var 5 ⊝ var 3)))
    ((x-z ⊗ var 3) ⊗ (y-z ⊗ var 6 ⊝ y-z ⊗ var 4)
    ⊕ (x-y ⊗ (y-z ⊗ var 4) ⊝ y-z ⊗ var 4) ⊗ (x-z ⊗ var 5 ⊝ x-z ⊗ var 3)) refl

-- ---- the sum in which x is free
abbrev change : ℤ → List ℤ → List ℤ → ℤ
change x l k = (spread x k -ℤ spread x l) *ℤ spreads k

changes-behind : (x z : ℤ) (l : List ℤ) → over (λ a k. change x (z ∷ l) (z ∷ k)) l
    ≡ spread x l *ℤ over (λ a k. change z l k) l
    +ℤ ((x -ℤ z) *ℤ spread z l -ℤ spread z l) *ℤ over (λ a k. change x l k) l
changes-behind x z l =
    let factor : ℤ = (x -ℤ z) *ℤ spread z l -ℤ spread z l in
    over-same (λ a k. change x (z ∷ l) (z ∷ k)) (λ a k. spread x l *ℤ change z l k +ℤ factor *ℤ change x l k) l
    (λ a k s.
    let numbers : List ℤ = x ∷ z ∷ spread x l ∷ spread z l ∷ spread x k ∷ spread z k ∷ spreads k ∷ [] in
    ring numbers
    ((x-y ⊗ var 4 ⊝ x-y ⊗ var 2) ⊗ (var 5 ⊗ var 6)) (x-y ⊗ ((var 4 ⊝ var 2) ⊗ var 5) ⊗ var 6) refl
    ∙ ap (λ d. d *ℤ spreads k) (two-factors x z s)
    ∙ ring numbers
    ((var 2 ⊗ (var 5 ⊝ var 3) ⊕ (x-y ⊗ var 3 ⊝ var 3) ⊗ (var 4 ⊝ var 2)) ⊗ var 6)
    (var 2 ⊗ ((var 5 ⊝ var 3) ⊗ var 6) ⊕ (x-y ⊗ var 3 ⊝ var 3) ⊗ ((var 4 ⊝ var 2) ⊗ var 6)) refl)
    ∙ over-sum (λ a k. spread x l *ℤ change z l k) (λ a k. factor *ℤ change x l k) l
    ∙ ap₂ ◌+ℤ◌ (over-times (spread x l) (λ a k. change z l k) l) (over-times factor (λ a k. change x l k) l)

changes : (x : ℤ) (l : List ℤ) → over (λ a k. change x l k) l ≡ (spread x l -ℤ spread (x -ℤ pos 1) l) *ℤ spreads l
changes x [] = refl
changes x (z ∷ l) =
    rw (changes-behind x z l, changes z l, changes x l)
    (ring (x ∷ z ∷ spread x l ∷ spread z l ∷ spread (x -ℤ pos 1) l ∷ spread (z -ℤ pos 1) l ∷ spreads l ∷ [])
    (((var 0 ⊝ (var 1 ⊝ num (pos 1))) ⊗ var 2 ⊝ x-y ⊗ var 2) ⊗ (var 5 ⊗ var 6)
    ⊕ (var 2 ⊗ ((var 3 ⊝ var 5) ⊗ var 6) ⊕ (x-y ⊗ var 3 ⊝ var 3) ⊗ ((var 2 ⊝ var 4) ⊗ var 6)))
    ((x-y ⊗ var 2 ⊝ (var 0 ⊝ num (pos 1) ⊝ var 1) ⊗ var 4) ⊗ (var 3 ⊗ var 6)) refl)

-- ---- the sum of V
plain-sum : (l : List ℤ) → over (λ a k. spreads k) l ≡ pos (length l) *ℤ spreads l
plain-sum [] = refl
plain-sum (z ∷ l) =
    let one_more : 1 + length l ≡ suc (length l) = omega arith in
    ap (λ s. spread (z -ℤ pos 1) l *ℤ spreads l +ℤ s)
    (over-same (λ a k. spread z k *ℤ spreads k) (λ a k. spread z l *ℤ spreads k +ℤ change z l k) l
    (λ a k s. ring (spread z l ∷ spread z k ∷ spreads k ∷ [])
    (var 1 ⊗ var 2) (var 0 ⊗ var 2 ⊕ (var 1 ⊝ var 0) ⊗ var 2) refl)
    ∙ over-sum (λ a k. spread z l *ℤ spreads k) (λ a k. change z l k) l
    ∙ ap₂ ◌+ℤ◌ (over-times (spread z l) (λ a k. spreads k) l ∙ ap (λ s. spread z l *ℤ s) (plain-sum l)) (changes z l))
    ∙ ring (spread z l ∷ spread (z -ℤ pos 1) l ∷ spreads l ∷ pos (length l) ∷ [])
    (var 1 ⊗ var 2 ⊕ (var 0 ⊗ (var 3 ⊗ var 2) ⊕ (var 0 ⊝ var 1) ⊗ var 2))
    ((num (pos 1) ⊕ var 3) ⊗ (var 0 ⊗ var 2)) refl
    ∙ ap (λ (n : ℕ). pos n *ℤ (spread z l *ℤ spreads l)) one_more

-- ---- the sum of a V
pub weighted-sum : (l : List ℤ) → over (λ a k. a *ℤ spreads k) l
    ≡ (sum (λ z. z) l -ℤ pos (triangle (length l))) *ℤ spreads l
weighted-sum [] = refl
weighted-sum (z ∷ l) =
    let d : ℤ = spread z l in
    ap (λ s. z *ℤ (spread (z -ℤ pos 1) l *ℤ spreads l) +ℤ s)
    (over-same (λ a k. a *ℤ (spread z k *ℤ spreads k))
    (λ a k. d *ℤ (a *ℤ spreads k) +ℤ (z *ℤ change z l k +ℤ neg_ℤ d *ℤ spreads k)) l
    (λ a k s. ring (z ∷ a ∷ d ∷ spread z k ∷ spreads k ∷ []) (var 1 ⊗ (var 3 ⊗ var 4))
    (var 2 ⊗ (var 1 ⊗ var 4) ⊕ (var 0 ⊗ ((var 3 ⊝ var 2) ⊗ var 4) ⊕ ⊖ (x-y ⊗ (var 3 ⊝ var 2)) ⊗ var 4)) refl
    ∙ ap (λ e. d *ℤ (a *ℤ spreads k) +ℤ (z *ℤ change z l k +ℤ neg_ℤ e *ℤ spreads k)) (one-factor z s))
    ∙ over-sum (λ a k. d *ℤ (a *ℤ spreads k)) (λ a k. z *ℤ change z l k +ℤ neg_ℤ d *ℤ spreads k) l
    ∙ ap₂ ◌+ℤ◌ (over-times d (λ a k. a *ℤ spreads k) l ∙ ap (λ s. d *ℤ s) (weighted-sum l))
    (over-sum (λ a k. z *ℤ change z l k) (λ a k. neg_ℤ d *ℤ spreads k) l
    ∙ ap₂ ◌+ℤ◌ (over-times z (λ a k. change z l k) l ∙ ap (λ s. z *ℤ s) (changes z l))
    (over-times (neg_ℤ d) (λ a k. spreads k) l ∙ ap (λ s. neg_ℤ d *ℤ s) (plain-sum l))))
    ∙ ring (z ∷ d ∷ spread (z -ℤ pos 1) l ∷ spreads l ∷ pos (length l) ∷ sum (λ z. z) l
    ∷ pos (triangle (length l)) ∷ [])
    (var 0 ⊗ (var 2 ⊗ var 3) ⊕ (var 1 ⊗ ((var 5 ⊝ var 6) ⊗ var 3)
    ⊕ (var 0 ⊗ ((var 1 ⊝ var 2) ⊗ var 3) ⊕ ⊖ (var 1) ⊗ (var 4 ⊗ var 3))))
    ((var 0 ⊕ var 5 ⊝ (var 4 ⊕ var 6)) ⊗ (var 1 ⊗ var 3)) refl

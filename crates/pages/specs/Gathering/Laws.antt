-- What gathering keeps (document 02, P7): sums of whatever goes by the weight, totals up to a bound, and what holds of
-- each line whatever its weight is.
--   Weighs f          f goes by the weight: of a line with two weights together it is what it is with each, added
--   Lightens g        the same of a number g that is at most that
--   Weightless P      P does not look at the weight
--   weight_for k l     the weight of l if it is equal to k, and else 0
use Rattle.std.specs.Prelude.{◌≡◌, ◌≤◌, ◌∷◌, ◌+◌, ◌+ℤ◌, ◌-ℤ◌}
use Rattle.std.proofs.Math.Path.{refl, sym, ap}
use Rattle.std.proofs.Common.{◌∙◌, eqb-true}
use native.Mathlib.Omega.{arith}
use Rattle.std.proofs.Math.IntN.{+ℤ_assoc, +ℤ_comm, +ℤ_idl, +ℤ_idr, +ℤ_invr, +ℤ-neg_ℤ_cancel}
use Rattle.theory.specs.Basics.{Bool, true, false, not, cond, List, [], map, ℕ, suc, ℤ, pos, negsuc}
use Rattle.theory.specs.Basics.{nat_abs, ◌=?◌, keep, total, sum, Each}
use Rattle.theory.proofs.Basics.Laws.{both}
use Rattle.theory.proofs.Basics.Keep.{each-kept, total-keep}
use Rattle.theory.proofs.Basics.Integers.{swap-back}
use Rattle.theory.proofs.Basics.Integers.Products.{sum-times}
use Rattle.pages.specs.Line.{Line, signed_character}
use Rattle.pages.specs.Gathering.{alike, weighing, brought, all_brought, lasting, gather, coefficient}

-- ---- equal lines
pub alike-weighing : (l m : Line) → alike l m ≡ true → weighing m.weight l ≡ m
alike-weighing l m e =
    let b = both (l.shape =? m.shape) (l.class =? m.class) e in
    rw (eqb-true l.shape m.shape b.0, eqb-true l.class m.class b.1)

-- ---- sums
abbrev pub Weighs : (Line → ℤ) → Type 0
Weighs f = (a b : ℤ) (l : Line) → f (weighing (a +ℤ b) l) ≡ f (weighing a l) +ℤ f (weighing b l)

module _ (f : Line → ℤ) (weighs : Weighs f) where
  -- a line of weight 0 brings nothing
  pub weighs-nothing : (l : Line) → f (weighing (pos 0) l) ≡ pos 0
  weighs-nothing l =
      let x : ℤ = f (weighing (pos 0) l) in
      sym (+ℤ-neg_ℤ_cancel x x) ∙ ap (λ z. z -ℤ x) (sym (weighs (pos 0) (pos 0) l)) ∙ +ℤ_invr x

  weighs-no-size : (l : Line) (z : ℤ) → nat_abs z =? 0 ≡ true → f (weighing z l) ≡ pos 0
  weighs-no-size l (pos n) e = ap (λ k. f (weighing (pos k) l)) (eqb-true n 0 e) ∙ weighs-nothing l
  weighs-no-size l (negsuc n) e = absurd (omega (arith, eqb-true (suc n) 0 e))

  pub sum-brought : (lines : List Line) (h : Line) → sum f (brought lines h) ≡ sum f lines +ℤ f h
  unfolding brought
  sum-brought [] h = +ℤ_comm (f h) (pos 0)
  sum-brought (l ∷ lines) h = go (alike l h) refl (sum-brought lines h)
    where
      added : Line
      added = weighing (l.weight +ℤ h.weight) l

      go : (b : Bool) → alike l h ≡ b → sum f (brought lines h) ≡ sum f lines +ℤ f h
          → sum f (cond b (added ∷ lines) (l ∷ brought lines h)) ≡ f l +ℤ sum f lines +ℤ f h
      go true e rest =
          ap (λ z. z +ℤ sum f lines) (weighs l.weight h.weight l ∙ ap (λ m. f l +ℤ f m) (alike-weighing l h e))
          ∙ swap-back (f l) (f h) (sum f lines)
      go false e rest = ap (λ z. f l +ℤ z) rest ∙ sym (+ℤ_assoc (f l) (sum f lines) (f h))

  pub sum-all-brought : (lines hs : List Line) → sum f (all_brought lines hs) ≡ sum f lines +ℤ sum f hs
  unfolding all_brought
  sum-all-brought lines [] = sym (+ℤ_idr (sum f lines))
  sum-all-brought lines (h ∷ hs) =
      sum-all-brought (brought lines h) hs ∙ ap (λ z. z +ℤ sum f hs) (sum-brought lines h)
      ∙ +ℤ_assoc (sum f lines) (f h) (sum f hs)

  sum-lasting : (lines : List Line) → sum f (keep lasting lines) ≡ sum f lines
  sum-lasting [] = refl
  sum-lasting (l ∷ lines) = go (nat_abs l.weight =? 0) refl (sum-lasting lines)
    where
      go : (b : Bool) → nat_abs l.weight =? 0 ≡ b → sum f (keep lasting lines) ≡ sum f lines
          → sum f (cond (not b) (l ∷ keep lasting lines) (keep lasting lines)) ≡ f l +ℤ sum f lines
      go true e rest =
          rest ∙ sym (ap (λ z. z +ℤ sum f lines) (weighs-no-size l l.weight e) ∙ +ℤ_idl (sum f lines))
      go false e rest = ap (λ z. f l +ℤ z) rest

  pub sum-gathered : (lines hs : List Line) → sum f (gather lines hs) ≡ sum f lines +ℤ sum f hs
  sum-gathered lines hs = sum-lasting (all_brought lines hs) ∙ sum-all-brought lines hs

-- what lines are worth
pub signed-weighs : Weighs signed_character
unfolding signed_character
signed-weighs a b l = sum-times a b _

pub worth-gathered : (lines hs : List Line)
    → sum signed_character (gather lines hs) ≡ sum signed_character lines +ℤ sum signed_character hs
worth-gathered = sum-gathered signed_character signed-weighs

-- ---- coefficients
abbrev pub weight_for : Line → Line → ℤ
weight_for k l = cond (alike k l) l.weight (pos 0)

pub coefficient-sum : (k : Line) (lines : List Line) → coefficient k lines ≡ sum (weight_for k) lines
coefficient-sum k [] = refl
coefficient-sum k (l ∷ lines) = go (alike k l) (coefficient-sum k lines)
  where
    go : (b : Bool) → coefficient k lines ≡ sum (weight_for k) lines
        → sum (λ m. m.weight) (cond b (l ∷ keep (alike k) lines) (keep (alike k) lines))
        ≡ cond b l.weight (pos 0) +ℤ sum (weight_for k) lines
    go true rest = ap (λ z. l.weight +ℤ z) rest
    go false rest = rest ∙ sym (+ℤ_idl (sum (weight_for k) lines))

pub weight-weighs : (k : Line) → Weighs (weight_for k)
weight-weighs k a b l = go (alike k l)
  where
    go : (c : Bool) → cond c (a +ℤ b) (pos 0) ≡ cond c a (pos 0) +ℤ cond c b (pos 0)
    go true = refl
    go false = refl

-- no lines are lost by joining
pub coefficient-gathered : (k : Line) (lines hs : List Line)
    → coefficient k (gather lines hs) ≡ coefficient k lines +ℤ coefficient k hs
coefficient-gathered k lines hs =
    rw (coefficient-sum k (gather lines hs), coefficient-sum k lines, coefficient-sum k hs)
    (sum-gathered (weight_for k) (weight-weighs k) lines hs)

-- ---- totals
abbrev pub Lightens : (Line → ℕ) → Type 0
Lightens g = (a b : ℤ) (l : Line) → g (weighing (a +ℤ b) l) ≤ g (weighing a l) + g (weighing b l)

module _ (g : Line → ℕ) (lightens : Lightens g) where
  total-brought : (lines : List Line) (h : Line) → total (map g (brought lines h)) ≤ total (map g lines) + g h
  unfolding brought
  total-brought [] h = omega arith
  total-brought (l ∷ lines) h = go (alike l h) refl (total-brought lines h)
    where
      added : Line
      added = weighing (l.weight +ℤ h.weight) l

      go : (b : Bool) → alike l h ≡ b → total (map g (brought lines h)) ≤ total (map g lines) + g h
          → total (map g (cond b (added ∷ lines) (l ∷ brought lines h))) ≤ g l + total (map g lines) + g h
      go true e rest = omega (arith, lightens l.weight h.weight l, ap g (alike-weighing l h e))
      go false e rest = omega arith

  total-all-brought : (lines hs : List Line)
      → total (map g (all_brought lines hs)) ≤ total (map g lines) + total (map g hs)
  unfolding all_brought
  total-all-brought lines [] = omega arith
  total-all-brought lines (h ∷ hs) = omega (arith, total-all-brought (brought lines h) hs, total-brought lines h)

  pub total-gathered : (lines hs : List Line) → total (map g (gather lines hs)) ≤ total (map g lines) + total (map g hs)
  total-gathered lines hs = omega (arith, total-keep lasting g (all_brought lines hs), total-all-brought lines hs)

-- ---- each line
abbrev pub Weightless : (Line → Type 0) → Type 0
Weightless P = (l : Line) (z : ℤ) → P l → P (weighing z l)

module _ (P : Line → Type 0) (weightless : Weightless P) where
  pub each-brought : (lines : List Line) (h : Line) → Each P lines → P h → Each P (brought lines h)
  unfolding brought
  each-brought [] h e p = (p, tt)
  each-brought (l ∷ lines) h e p = go (alike l h) (each-brought lines h e.1 p)
    where
      added : ℤ
      added = l.weight +ℤ h.weight

      go : (b : Bool) → Each P (brought lines h) → Each P (cond b (weighing added l ∷ lines) (l ∷ brought lines h))
      go true rest = (weightless l added e.0, e.1)
      go false rest = (e.0, rest)

  pub each-all-brought : (lines hs : List Line) → Each P lines → Each P hs → Each P (all_brought lines hs)
  unfolding all_brought
  each-all-brought lines [] e d = e
  each-all-brought lines (h ∷ hs) e d = each-all-brought (brought lines h) hs (each-brought lines h e d.0) d.1

  pub each-gathered : (lines hs : List Line) → Each P lines → Each P hs → Each P (gather lines hs)
  each-gathered lines hs e d = each-kept lasting P (all_brought lines hs) (each-all-brought lines hs e d)

-- No character of degree n exceeds n! in size (document 01, "The character"), and a step stays within n! and S(n)
-- ("S(0) = 0 and S(d) = 1 + d S(d-1)", "Sound").
--   Bounded c ds   it holds of the shape of the digits ds on the class c
use Rattle.std.specs.Prelude.{◌≡◌, refl, ◌≤◌, ◌∷◌, ◌+◌, ◌-◌, ◌*◌}
use Rattle.std.proofs.Common.{◌∙◌, ap, zero-le, le_refl, le_trans, arith, eq-eqb}
use Rattle.theory.specs.Basics.{true, [], map, length, ℕ, suc, total, sum, ℤ}
use Rattle.theory.specs.Basics.{nat_abs, signed, Each}
use Rattle.theory.proofs.Basics.Laws.{each_same, total-same}
use Rattle.theory.specs.Partition.{Parts, is_partition, degree}
use Rattle.theory.specs.Partition.Laws.{NoZero, none, some}
use Rattle.theory.specs.Digits.{Digits, digits, width}
use Rattle.theory.specs.ShapeWord.{shape_digits, rows, shape_of, shifted}
use Rattle.theory.proofs.ShapeWord.Laws.{rows-shape}
use Rattle.theory.specs.Character.{character, ◌on◌}
use Rattle.theory.specs.Hooks.{Hook, hooks, hook_words}
use Rattle.theory.proofs.Hooks.Laws.{Exchange, exchanges, exchange-degree, hooks-by-degree}
use Rattle.theory.proofs.Hooks.Rule.{hook-rule}
use Rattle.theory.specs.Hooks.Words.{Left}
use Rattle.theory.proofs.Hooks.Words.{hooks-leave, hooks-few}
use Rattle.theory.specs.Bounds.{factorial, S}
use Rattle.theory.proofs.Bounds.Laws.{abs-signed, abs-sum, factorial-share, S-share}

Bounded : Parts → Digits → Type 0
Bounded c ds = degree (rows ds) ≡ degree c → nat_abs (rows ds on c) ≤ factorial (degree c)

bounded-none : (ds : Digits) → Bounded [] ds
unfolding Bounded character factorial
bounded-none ds e = at_most_one (rows ds)
  where
    at_most_one : (rs : Parts) → nat_abs (rs on []) ≤ 1
    at_most_one [] = le_refl 1
    at_most_one (r ∷ rs) = zero-le

-- the first cycle h has at most n hooks, and each leaves a character of at most (n - h)! in size
bounded-some : (h : ℕ) (c : Parts) → NoZero (h ∷ c) → 1 ≤ h → ((ds : Digits) → Bounded c ds) → (ds : Digits)
    → Bounded (h ∷ c) ds
unfolding Bounded
bounded-some h c n long bounded ds e =
    rw rule (le_trans (abs-sum (factorial (degree c)) term (hooks h ds) small) (rw d at share))
  where
    term : Hook Digits → ℤ
    term hook = signed hook.minus (rows (shifted hook.leaves) on c)

    rule : rows ds on (h ∷ c) ≡ sum term (hooks h ds)
    rule =
        let t = eq-eqb h h refl in
        rw t at (hook-rule h (h ∷ c) n (rw t (λ absent. omega arith)) ds)

    left : (hook : Hook Digits) → Exchange h ds hook → nat_abs (term hook) ≤ factorial (degree c)
    left hook x =
        let lower = exchange-degree h ds hook x in
        rw (abs-signed hook.minus _) (bounded (shifted hook.leaves) (omega arith))

    small : Each (λ hook. nat_abs (term hook) ≤ factorial (degree c)) (hooks h ds)
    small = each_same (Exchange h ds) _ (hooks h ds) left (exchanges h ds)

    share : length (hooks h ds) * factorial (h + degree c - h) ≤ factorial (h + degree c)
    share = factorial-share (length (hooks h ds)) (h + degree c) h (omega (arith, hooks-by-degree h ds)) long

    d : h + degree c - h ≡ degree c
    d = omega arith

digits-bounded : {c : Parts} → NoZero c → (ds : Digits) → Bounded c ds
digits-bounded none = bounded-none
digits-bounded (some {p = p} {ps = ps} n) = bounded-some (suc p) ps (some n) (omega arith) (digits-bounded n)

pub character-bounded : (s c : Parts) → is_partition s ≡ true → NoZero c → degree s ≡ degree c
    → nat_abs (s on c) ≤ factorial (degree c)
unfolding Bounded
character-bounded s c p n e =
    rw (rows-shape s p) at (digits-bounded n (shape_digits s) (ap degree (rows-shape s p) ∙ e))

pub word-bounded : (w : ℕ) (c : Parts) → NoZero c → degree (shape_of w) ≡ degree c
    → nat_abs (shape_of w on c) ≤ factorial (degree c)
unfolding Bounded
word-bounded w c n = digits-bounded n (digits width w)

-- ---- what a step costs: the lines that the hooks of a line leave need no more than its d! in all and, with the one
-- step, no more than its S(d)
module _ (h w : ℕ) where
  -- what goes by the degree alone is the same for each hook
  pub hooks-total : (f : ℕ → ℕ) → total (map (λ hook. f (degree (shape_of hook.leaves))) (hook_words h w))
      ≡ length (hook_words h w) * f (degree (shape_of w) - h)
  hooks-total f = total-same _ _ (hook_words h w) (each_same (Left h w) _ (hook_words h w) same (hooks-leave h w))
    where
      same : (hook : Hook ℕ) → Left h w hook → f (degree (shape_of hook.leaves)) ≡ f (degree (shape_of w) - h)
      same hook l =
          let e : degree (shape_of hook.leaves) ≡ degree (shape_of w) - h = omega arith in
          rw e

  pub step-factorial : 1 ≤ h
      → length (hook_words h w) * factorial (degree (shape_of w) - h) ≤ factorial (degree (shape_of w))
  step-factorial long = factorial-share (length (hook_words h w)) (degree (shape_of w)) h (hooks-few h w) long

  pub step-S : 1 ≤ h → 1 ≤ degree (shape_of w)
      → 1 + length (hook_words h w) * S (degree (shape_of w) - h) ≤ S (degree (shape_of w))
  step-S long large = S-share (length (hook_words h w)) (degree (shape_of w)) h (hooks-few h w) long large

-- Evaluation by hooks: the cycles are struck in any order, another one at each shape on the way if one likes, and what
-- it comes to is the character (document 01, "The character", first paragraph; "Hook of length h").
--   Evaluation c ds x   by hooks, the shape of the digits ds comes to x on the class c
use Rattle.std.specs.Prelude.{◌≡◌, refl, ◌∷◌}
use Rattle.std.proofs.Common.{sym, ◌∙◌, ap, arith, eq-eqb}
use mathlib.Core.List.{Memᴰ}
use Rattle.theory.specs.Basics.{[], ℕ, suc, ℤ, pos, sum, signed}
use Rattle.theory.proofs.Basics.Laws.{each_member, each_of, sum_same}
use Rattle.theory.specs.Partition.{Parts, degree, times, without}
use Rattle.theory.specs.Partition.Laws.{NoZero, none, some}
use Rattle.theory.proofs.Partition.Laws.{no-zero-without, times-own, no-degree}
use Rattle.theory.specs.Digits.{Digits}
use Rattle.theory.specs.ShapeWord.{rows, shifted}
use Rattle.theory.proofs.ShapeWord.Laws.{rows-partition}
use Rattle.theory.specs.Character.{character, ◌on◌}
use Rattle.theory.specs.Hooks.{Hook, hooks}
use Rattle.theory.proofs.Hooks.Laws.{Exchange, exchanges, exchange-degree}
use Rattle.theory.proofs.Hooks.Rule.{hook-rule}

pub data Evaluation : Parts → Digits → ℤ → Type 0 where
  -- no cycle is left, and no row
  done : (ds : Digits) → rows ds ≡ [] → Evaluation [] ds (pos 1)
  -- any cycle h of the class is struck, and each of its hooks leaves a shape to evaluate
  strike : (h : ℕ) (c : Parts) (ds : Digits) (f : Hook Digits → ℤ) → (times h c ≡ 0 → ⊥)
      → ((hook : Hook Digits) → Memᴰ hook (hooks h ds)
      → Evaluation (without h c) (shifted hook.leaves) (f hook))
      → Evaluation c ds (sum (λ hook. signed hook.minus (f hook)) (hooks h ds))

pub evaluated : {c : Parts} {ds : Digits} {x : ℤ} → Evaluation c ds x → NoZero c → x ≡ rows ds on c
unfolding character
evaluated (done ds e) k = rw e refl
evaluated (strike h c ds f occurs evaluations) k =
    sum_same (λ hook. f hook ≡ rows (shifted hook.leaves) on without h c)
    (λ hook. signed hook.minus (f hook))
    (λ hook. signed hook.minus (rows (shifted hook.leaves) on without h c))
    (hooks h ds)
    (λ hook e. ap (signed hook.minus) e)
    (each_member (λ hook. f hook ≡ rows (shifted hook.leaves) on without h c) (hooks h ds)
    (λ hook m. evaluated (evaluations hook m) (no-zero-without h k)))
    ∙ sym (hook-rule h c k occurs ds)

-- and there is one, wherever the degrees agree
pub evaluates : {c : Parts} → NoZero c → (ds : Digits) → degree (rows ds) ≡ degree c → Evaluation c ds (rows ds on c)
unfolding character
evaluates none ds e =
    let empty = no-degree (rows ds) (rows-partition ds) e in
    rw empty (done ds empty)
evaluates (some {p = p} {ps = ps} k) ds e =
    let h : ℕ = suc p in
    let c : Parts = h ∷ ps in
    let occurs : times h c ≡ 0 → ⊥ = λ z. omega (arith, times-own h ps) in
    let rest : without h c ≡ ps = rw (eq-eqb h h refl) refl in
    rw (hook-rule h c (some k) occurs ds)
    (strike h c ds (λ hook. rows (shifted hook.leaves) on without h c) occurs
    (λ hook m.
    let x = each_of (Exchange h ds) (hooks h ds) (exchanges h ds) hook m in
    rw rest (evaluates k (shifted hook.leaves) (omega (arith, exchange-degree h ds hook x)))))

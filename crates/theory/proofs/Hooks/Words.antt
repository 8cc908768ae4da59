-- Hooks of words (document 01, "Hook of length h"; "so that the word is again a good one"), for any word w.
use Rattle.std.specs.Prelude.{◌≡◌, refl, ◌≤◌, ◌∷◌}
use Rattle.std.proofs.Common.{sym, ◌∙◌, ap, arith, eq-eqb}
use mathlib.Core.List.{map-map}
use Rattle.std.proofs.lemmas.List.{length-map}
use Rattle.theory.specs.Basics.{map, length, ℕ, sum, signed, Each}
use Rattle.theory.proofs.Basics.Laws.{each_map, map_same, sum-map, sum_same}
use Rattle.theory.specs.Partition.{Parts, degree, times, without}
use Rattle.theory.specs.Partition.Laws.{NoZero}
use Rattle.theory.specs.Digits.{Digits, digits, width}
use Rattle.theory.proofs.Digits.Laws.{length_digits}
use Rattle.theory.specs.ShapeWord.{rows, shape_of, shape_width, shifted}
use Rattle.theory.proofs.ShapeWord.Good.{shape-good}
use Rattle.theory.proofs.ShapeWord.InFront.{word-shifted, rows_left}
use Rattle.theory.specs.Character.{◌on◌}
use Rattle.theory.specs.Hooks.{Hook, hooks, hook_word, hook_words}
use Rattle.theory.proofs.Hooks.Laws.{Exchange, exchanges, exchange-degree, hooks-by-degree}
use Rattle.theory.proofs.Hooks.Rule.{hook-rule}
use Rattle.theory.specs.Hooks.Words.{Left}

module _ (h w : ℕ) where
  abbrev Taken : Hook Digits → Type 0
  Taken hook = Exchange h (digits width w) hook

  taken : Each Taken (hooks h (digits width w))
  taken = exchanges h (digits width w)

  shape-left : (hook : Hook Digits) → Taken hook → shape_of (hook_word hook).leaves ≡ rows (shifted hook.leaves)
  shape-left hook e = rows_left width hook.leaves (omega (arith, length_digits width w))

  -- the shapes that are left are those of the exchanged digits
  pub hook-shapes : map (λ hook. shape_of hook.leaves) (hook_words h w)
      ≡ map (λ hook. rows (shifted hook.leaves)) (hooks h (digits width w))
  unfolding hook_words
  hook-shapes =
      map-map (λ (hook : Hook ℕ). shape_of hook.leaves) hook_word (hooks h (digits width w))
      ∙ map_same Taken _ _ (hooks h (digits width w)) shape-left taken

  pub hooks-leave : Each (Left h w) (hook_words h w)
  unfolding hook_words
  hooks-leave = each_map Taken (Left h w) hook_word (hooks h (digits width w)) left taken
    where
      left : (hook : Hook Digits) → Taken hook → Left h w (hook_word hook)
      left hook e = record {
        good = shape-good (record { below = word-shifted shape_width hook.leaves });
        lower = rw (shape-left hook e) (exchange-degree h (digits width w) hook e);
      }

  pub hooks-few : length (hook_words h w) ≤ degree (shape_of w)
  unfolding hook_words
  hooks-few = rw (length-map (hooks h (digits width w)) hook_word) (hooks-by-degree h (digits width w))

-- ---- the hook rule on words
pub hook-rule-words : (h : ℕ) (c : Parts) → NoZero c → (times h c ≡ 0 → ⊥) → (w : ℕ)
    → shape_of w on c ≡ sum (λ hook. signed hook.minus (shape_of hook.leaves on without h c)) (hook_words h w)
unfolding hook_words
hook-rule-words h c n occurs w =
    hook-rule h c n occurs (digits width w)
    ∙ sum_same (Taken h w) _ _ (hooks h (digits width w))
    (λ hook e. ap (λ rs. signed hook.minus (rs on without h c)) (sym (shape-left h w hook e))) (taken h w)
    ∙ sym (sum-map _ hook_word (hooks h (digits width w)))

-- and where the first cycle is struck
pub hook-rule-first : (h : ℕ) (c : Parts) → NoZero (h ∷ c) → (w : ℕ)
    → shape_of w on (h ∷ c) ≡ sum (λ hook. signed hook.minus (shape_of hook.leaves on c)) (hook_words h w)
hook-rule-first h c n w =
    let t = eq-eqb h h refl in
    rw t at (hook-rule-words h (h ∷ c) n (rw t (λ absent. omega arith)) w)

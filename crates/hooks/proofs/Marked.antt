-- The hooks at marks, one by one: none where no mark is left, else that of the highest mark and those of the others.
--   Next h s m one   of marks m that are not 0 the highest counts `one`, and what its hook is
use Rattle.std.specs.Prelude.{◌≡◌, refl, [], ◌∷◌, ◌≤◌, ◌<◌, ◌-◌, ◌*◌, ◌%◌, ◌^◌}
use Rattle.std.proofs.Common.{sym, arith}
use Rattle.std.specs.Int.Count.{count_leading_zeros}
use Rattle.theory.specs.Basics.{ℕ}
use Rattle.theory.specs.Digits.{width}
use Rattle.theory.proofs.Digits.Laws.{one_shifted}
use Rattle.theory.specs.Hooks.{hook_words}
use Rattle.theory.specs.Hooks.Marks.{marks}
use Rattle.theory.proofs.Hooks.Marks.Walk.{highest, places-none}
use Rattle.theory.specs.Hooks.Marks.Stretch.{stretch, hook_by}
use Rattle.theory.proofs.Hooks.Marks.Stretch.{hooks-stretched}
use Rattle.hooks.specs.Marked.{marked_hooks}

pub marks-below : (h s : ℕ) → marks s h < 2 ^ width
unfolding marks
marks-below h s = omega arith

pub marked-words : (h s : ℕ) → 0 < h → s < 2 ^ width → marked_hooks h s (marks s h) ≡ hook_words h s
unfolding marked_hooks
marked-words h s long small = sym (hooks-stretched h s long small)

pub marked-none : (h s : ℕ) → marked_hooks h s 0 ≡ []
unfolding marked_hooks
marked-none h s = rw (places-none width) refl

pub record Next (h s m one : ℕ) : Type 0 where
  pub takes : one ≤ m
  pub rest : marked_hooks h s m ≡ hook_by s (stretch one h) ∷ marked_hooks h s (m - one)

pub marked-next : (h s m : ℕ) → 0 < m → m < 2 ^ width → Next h s m (1 * 2 ^ (31 - count_leading_zeros 32 m) % 2 ^ 32)
unfolding marked_hooks
marked-next h s m more below =
    let top = highest width m more below in
    record {
      takes = top.takes;
      rest = rw (top.rest, one_shifted 32 (31 - count_leading_zeros 32 m) (omega (arith, top.below))) refl;
    }

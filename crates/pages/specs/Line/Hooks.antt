-- The lines that the hooks of a line l make (document 01, "one line for each hook is put at the end, in hook order, its
-- sign multiplied in, its class without one such cycle").
--   Has cycle l          the class of the line l has such a cycle
--   HookLine cycle l y   what is true of each line y that a hook of length cycle makes
use Rattle.std.specs.Prelude.{◌≡◌, refl, ◌≤◌, ◌+◌, ◌-◌, ◌*◌, ◌*ℤ◌}
use Rattle.std.proofs.Math.Path.{sym, ap}
use Rattle.std.proofs.Common.{◌∙◌}
use Rattle.std.proofs.lemmas.Simd.{map-map}
use Rattle.std.proofs.lemmas.List.{length-map}
use Rattle.theory.specs.Basics.{true, List, map, length, ℕ, total, sum, nat_abs, signed}
use Rattle.theory.specs.Basics.{Each}
use Rattle.theory.proofs.Basics.Laws.{each_map, sum_same, sum-map}
use Rattle.theory.proofs.Basics.Integers.Products.{times-sums, times-signed}
use Rattle.theory.specs.Partition.{Parts, times, without}
use Rattle.theory.specs.Digits.{digits, width}
use Rattle.theory.specs.ShapeWord.{shape_of, good_shape}
use Rattle.theory.specs.ClassWord.{class_word, class_of, good_class}
use Rattle.theory.specs.ClassWord.Laws.{GoodClass}
use Rattle.theory.proofs.ClassWord.Laws.{good-class, class-good, parts-no-zero, without-good}
use Rattle.theory.specs.Character.{◌on◌}
use Rattle.theory.specs.Hooks.{Hook, hook_words}
use Rattle.theory.specs.Hooks.Words.{Left}
use Rattle.theory.proofs.Hooks.Words.{hooks-leave, hooks-few, hook-rule-words}
use Rattle.theory.proofs.Hooks.Bounds.{hooks-total}
use Rattle.theory.proofs.Bounds.Laws.{abs-signed}
use Rattle.pages.specs.Line.{Line, line_degree, signed_character, hook_line, hook_lines}

abbrev pub Has : ℕ → Line → Type 0
Has cycle l = times cycle (class_of l.class) ≡ 0 → ⊥

pub record HookLine (cycle : ℕ) (l y : Line) : Type 0 where
  pub good-shape : good_shape y.shape ≡ true
  pub lower : line_degree y + cycle ≡ line_degree l
  pub class-word : y.class ≡ class_word (without cycle (class_of l.class))
  pub same_size : nat_abs y.weight ≡ nat_abs l.weight

module _ (cycle : ℕ) (l : Line) where
  abbrev hooks : List (Hook ℕ)
  hooks = hook_words cycle l.shape

  pub hook-lines : Each (HookLine cycle l) (hook_lines cycle l)
  unfolding hook_lines
  hook-lines = each_map (Left cycle l.shape) (HookLine cycle l) (hook_line cycle l) hooks
      (λ hook left. record {
        good-shape = left.good;
        lower = left.lower;
        class-word = refl;
        same_size = abs-signed hook.minus l.weight;
      })
      (hooks-leave cycle l.shape)

  pub hook-lines-few : length (hook_lines cycle l) ≤ line_degree l
  unfolding hook_lines
  hook-lines-few = rw (length-map hooks (hook_line cycle l)) (hooks-few cycle l.shape)

  -- what goes by the degree alone
  pub over-hook-lines : (f : ℕ → ℕ)
      → total (map (λ y. f (line_degree y)) (hook_lines cycle l)) ≡ length hooks * f (line_degree l - cycle)
  unfolding hook_lines
  over-hook-lines f =
      ap total (map-map (λ (y : Line). f (line_degree y)) (hook_line cycle l) hooks) ∙ hooks-total cycle l.shape f

-- ---- the hook rule on a line
module _ (cycle : ℕ) (l : Line) (good : good_class l.class ≡ true) (has : Has cycle l) where
  abbrev left : Parts
  left = without cycle (class_of l.class)

  class-left : GoodClass (class_word left) × (class_of (class_word left) ≡ left)
  class-left = without-good cycle (good-class l.class good) has

  pub hook-line-class : (y : Line) → HookLine cycle l y → (good_class y.class ≡ true) × (class_of y.class ≡ left)
  hook-line-class y h = rw h.class-word (class-good class-left.0, class-left.1)

  made-character : (hook : Hook ℕ)
      → signed_character (hook_line cycle l hook) ≡ signed hook.minus l.weight *ℤ (shape_of hook.leaves on left)
  unfolding signed_character
  made-character hook = rw class-left.1

  pub hook-rule-line : signed_character l ≡ sum signed_character (hook_lines cycle l)
  unfolding hook_lines signed_character
  hook-rule-line =
      let hooks : List (Hook ℕ) = hook_words cycle l.shape in
      let no_zero = parts-no-zero 0 (digits width l.class) in
      let rule = hook-rule-words cycle (class_of l.class) no_zero has l.shape in
      ap (λ z. l.weight *ℤ z) rule
      ∙ times-sums l.weight _ hooks
      ∙ sum_same (Left cycle l.shape) _ (λ hook. signed_character (hook_line cycle l hook)) hooks
      (λ hook h. times-signed hook.minus l.weight _ ∙ sym (made-character hook)) (hooks-leave cycle l.shape)
      ∙ sym (sum-map signed_character (hook_line cycle l) hooks)

-- The hooks of a word as code goes over them (document 01, "Hook of length h").
--   hook_of hook        a hook that code has, as theory has one
--   marked_hooks h s m   the hooks of length h of the word s whose zeros stand at the ones of m, highest first
use Rattle.std.specs.Prelude.{◌^◌}
use Rattle.theory.specs.Basics.{List, map, ℕ}
use Rattle.theory.specs.Digits.{width}
use Rattle.theory.specs.Hooks.{Hook}
use Rattle.theory.specs.Hooks.Marks.{places}
use Rattle.theory.specs.Hooks.Marks.Stretch.{stretch, hook_by}
use Rattle.hooks.specs.declared.Hook as declared

abbrev pub hook_of : declared.Hook → Hook ℕ
hook_of hook = record { minus = hook.minus; leaves = hook.leaves }

unfoldable pub marked_hooks : ℕ → ℕ → ℕ → List (Hook ℕ)
marked_hooks h s m = map (λ b. hook_by s (stretch (2 ^ b) h)) (places width m)

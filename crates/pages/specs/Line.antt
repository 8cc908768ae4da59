-- A waiting line (document 01, "Slip and page"), however it is written down.
--   Line                 its weight, its shape word and its class word (linewords/specs/Word)
--   line_degree l         the degree of its shape
--   signed_character l    its weight times its character
--   hook_lines cycle l    for each hook, in hook order, a line: its sign multiplied in, its class without one such cycle
use Rattle.std.specs.Prelude.{◌*ℤ◌}
use Rattle.theory.specs.Basics.{List, map, ℕ, ℤ, signed}
use Rattle.theory.specs.Partition.{degree, without}
use Rattle.theory.specs.ShapeWord.{shape_of}
use Rattle.theory.specs.ClassWord.{class_word, class_of}
use Rattle.theory.specs.Character.{◌on◌}
use Rattle.theory.specs.Hooks.{Hook, hook_words}
pub use Rattle.linewords.specs.Word.{Line}
pub mod Hooks
pub mod Weights

abbrev pub line_degree : Line → ℕ
line_degree l = degree (shape_of l.shape)

unfoldable pub signed_character : Line → ℤ
signed_character l = l.weight *ℤ (shape_of l.shape on class_of l.class)

abbrev pub hook_line : ℕ → Line → Hook ℕ → Line
hook_line cycle l hook = record {
  weight = signed hook.minus l.weight;
  shape = hook.leaves;
  class = class_word (without cycle (class_of l.class));
}

unfoldable pub hook_lines : ℕ → Line → List Line
hook_lines cycle l = map (hook_line cycle l) (hook_words cycle l.shape)

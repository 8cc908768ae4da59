-- Lines stay sound when they are gathered (document 02, P7): what they count in all does not grow, since equal lines
-- have one degree, and |a + b| is at most |a| + |b|.
use Rattle.std.specs.Prelude.{◌≤◌, ◌+◌}
use Rattle.std.proofs.Common.{le_refl, mul-le-mul, arith}
use Rattle.theory.specs.Basics.{List, ℕ, Each}
use Rattle.theory.specs.Bounds.{factorial}
use Rattle.theory.proofs.Bounds.Laws.{abs-add}
use Rattle.pages.specs.Line.{Line, line_degree}
use Rattle.pages.specs.Sound.{line_value, line_span}
use Rattle.pages.specs.Sound.Laws.{SoundLine, values, spans}
use Rattle.pages.specs.Gathering.{gather}
use Rattle.pages.specs.Gathering.Laws.{Lightens, total-gathered, Weightless, each-gathered}

value-lightens : Lightens line_value
value-lightens a b l = omega (arith, mul-le-mul (abs-add a b) (le_refl (factorial (line_degree l))))

span-lightens : Lightens line_span
span-lightens a b l = omega arith

pub values-gathered : (lines hs : List Line) → values (gather lines hs) ≤ values lines + values hs
values-gathered = total-gathered line_value value-lightens

pub spans-gathered : (lines hs : List Line) → spans (gather lines hs) ≤ spans lines + spans hs
spans-gathered = total-gathered line_span span-lightens

pub sound-weighing : (n : ℕ) → Weightless (SoundLine n)
sound-weighing n l z s = record {
  shape = s.shape;
  class = s.class;
  degrees = s.degrees;
  some = s.some;
  within = s.within;
}

pub sound-gathered : (n : ℕ) (lines hs : List Line) → Each (SoundLine n) lines → Each (SoundLine n) hs
    → Each (SoundLine n) (gather lines hs)
sound-gathered n = each-gathered (SoundLine n) (sound-weighing n)

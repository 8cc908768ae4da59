-- What lines keep small: weights and, of sound lines, sums of signed characters, in whatever order they are added up.
use Rattle.std.specs.Prelude.{◌≤◌}
use Rattle.std.proofs.Common.{le_refl, mul-le-mul, mul-one, arith}
use Rattle.theory.specs.Basics.{List, ℕ, nat_abs, sum, Each}
use Rattle.theory.proofs.Basics.Laws.{each_same}
use Rattle.theory.proofs.Basics.Integers.Products.{abs-times}
use Rattle.theory.specs.Digits.{digits, width}
use Rattle.theory.specs.ShapeWord.{shape_of}
use Rattle.theory.specs.ClassWord.{class_of}
use Rattle.theory.proofs.ClassWord.Laws.{parts-no-zero}
use Rattle.theory.specs.Character.{◌on◌}
use Rattle.theory.proofs.Hooks.Bounds.{word-bounded}
use Rattle.theory.specs.Bounds.{factorial}
use Rattle.theory.proofs.Bounds.Laws.{factorial-positive}
use Rattle.pages.specs.Page.{Slip}
use Rattle.pages.specs.Line.{Line, line_degree, signed_character}
use Rattle.pages.specs.Line.Weights.{sum-within}
use Rattle.pages.specs.Sound.{line_value}
use Rattle.pages.specs.Sound.Laws.{SoundLine, values, asked, SoundLines}

-- a weight is no larger than what its line counts
pub weight-counted : (l : Line) → nat_abs l.weight ≤ line_value l
weight-counted l =
    let size : ℕ = nat_abs l.weight in
    omega (arith, mul-one size, mul-le-mul (le_refl size) (factorial-positive (line_degree l)))

pub character-within : {n : ℕ} {l : Line} → SoundLine n l
    → nat_abs (shape_of l.shape on class_of l.class) ≤ factorial (line_degree l)
character-within {l = l} s =
    rw s.degrees
    (word-bounded l.shape (class_of l.class) (parts-no-zero 0 (digits width l.class)) s.degrees)

pub line-bounded : {n : ℕ} {l : Line} → SoundLine n l → nat_abs (signed_character l) ≤ line_value l
unfolding signed_character
line-bounded {l = l} s = rw (abs-times l.weight _) (mul-le-mul (le_refl (nat_abs l.weight)) (character-within s))

pub lines-bounded : (n : ℕ) (lines : List Line) → Each (SoundLine n) lines
    → nat_abs (sum signed_character lines) ≤ values lines
lines-bounded n lines e =
    sum-within signed_character line_value lines (each_same (SoundLine n) _ lines (λ l. line-bounded) e)

pub asked-within : (limit : ℕ) (slip : Slip) (lines : List Line) → SoundLines limit slip lines → asked slip ≤ limit
asked-within limit slip lines s = s.words.shape.small

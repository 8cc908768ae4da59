-- `words::shapes::read`: each way out is the first check that refuses, or none, and then the ones in front are dropped.
use Rattle.std.proofs.Common.{◌∙◌, ap, ◌*◌, ◌%◌, ◌^◌, ◌<◌}
use native.Mathlib.Omega.{arith}
use borrow.Author.Tests.{lt-ltb, le-ltb}
use Rattle.theory.specs.Basics.{ℕ}
use Rattle.theory.specs.Partition.{degree}
use Rattle.theory.specs.Digits.{width}
use Rattle.theory.specs.ShapeWord.{shape_of}
use Rattle.theory.proofs.ShapeWord.Shifting.{dropped-few, good-shifted}
use Rattle.theory.specs.Limits.{degree_limit}
use Rattle.words.proofs.Readings.{reading-refused, reading-given}
use Rattle.words.proofs.shapes.read.Goals as goal

pub returns-then-word-ge2147483648 : goal.returns-then-word-ge2147483648
returns-then-word-ge2147483648 c =
    let w : ℕ = c.args.word in
    let set = le-ltb w (2 ^ width) (omega arith) in
    reading-refused degree_limit w 1 (rw set) (λ z. omega arith)

pub returns-then-degree-gt-LIMIT : goal.returns-then-degree-gt-LIMIT
returns-then-degree-gt-LIMIT c =
    let w : ℕ = c.args.word in
    let clear = lt-ltb w (2 ^ width) (omega arith) in
    let above = lt-ltb degree_limit (degree (shape_of w)) (omega arith) in
    reading-refused degree_limit w 2 (rw (clear, above)) (λ z. omega arith)

pub overflow_shl-good : goal.overflow_shl-good
overflow_shl-good c = omega (arith, dropped-few c.args.word (omega arith))

pub returns : goal.returns
returns c =
    let w : ℕ = c.args.word in
    let below : w < 2 ^ width = omega arith in
    let clear = lt-ltb w (2 ^ width) below in
    let within = le-ltb degree_limit (degree (shape_of w)) (omega arith) in
    let ones = c.ones_in_front-dropped.ensures in
    let good = ap (λ (k : ℕ). w * 2 ^ k % 2 ^ 32 % 2 ^ 31) ones ∙ good-shifted w below in
    reading-given degree_limit w _ _ _ (rw (clear, within)) good ones c.pairs-degree.ensures

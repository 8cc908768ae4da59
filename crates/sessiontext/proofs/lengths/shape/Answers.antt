-- `sessiontext::lengths::shape`: rows, ones and trailing zeros are all 31 digits.
use Rattle.std.proofs.Common.{refl, ◌∙◌, arith}
use Rattle.sessiontext.proofs.Counted.{no_rows, shape-digits, shape-some, shape-counted}
use Rattle.sessiontext.proofs.lengths.shape.Goals as goal

pub returns-then-word-eq0 : goal.returns-then-word-eq0
returns-then-word-eq0 c = no_rows c.if-word-eq0.true

pub overflow_sub-word-2 : goal.overflow_sub-word-2
overflow_sub-word-2 c = omega (arith, shape-digits c.requires c.if-word-eq0.false)

pub list-requires : goal.list-requires
list-requires c =
    let all = shape-digits c.requires c.if-word-eq0.false in
    (omega (arith, shape-some c.requires c.if-word-eq0.false), omega arith)

pub returns : goal.returns
returns c = c.list.ensures ∙ shape-counted c.requires c.if-word-eq0.false refl

-- `sessiontext::lengths::class`: a class has a part for each one, and at least one.
use Rattle.std.proofs.Common.{◌∙◌, arith}
use Rattle.sessiontext.proofs.Counted.{no-cycles, class-some, class-few, class-counted}
use Rattle.sessiontext.proofs.lengths.class.Goals as goal

pub returns-then-word-eq0 : goal.returns-then-word-eq0
returns-then-word-eq0 c = no-cycles c.if-word-eq0.true

pub list-requires : goal.list-requires
list-requires c =
    let count = class-some c.requires c.if-word-eq0.false in
    let few = class-few c.requires c.if-word-eq0.false in
    (omega arith, omega arith)

pub returns : goal.returns
returns c = c.list.ensures ∙ class-counted c.requires c.if-word-eq0.false

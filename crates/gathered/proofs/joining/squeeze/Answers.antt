-- `gathered::joining::squeeze` meets its contract: of the lines that were passed, those that stay are at the front.
use Rattle.std.proofs.Common.{get_or, pos, ℤ}
use borrow.Author.Rules.{rules}
use mir.Facts.{to_z-of_z}
use mir.Syntax.{w64}
use mir.Val.{SFits}
use Rattle.gathered.proofs.Sizes.{some_size, no_size}
use Rattle.gathered.proofs.Squeezing.{squeeze-zero, squeeze-some}
use Rattle.gathered.proofs.joining.squeeze.Goals as goal
use Rattle.gathered.proofs.joining.squeeze.Goals.{then-coefficient-ne0, else-coefficient-ne0}

pub loop-from-preserved : goal.loop-from-preserved
loop-from-preserved c =
    let weight : ℤ = get_or c.loop-from.column c.loop-from.from (pos 0) in
    let fits : SFits w64 weight = search rules in
    elim c.if-coefficient-ne0.branch [
      | then-coefficient-ne0 w ↦
          rw (w.page-is, w.column-is, w.to-is, to_z-of_z fits)
          (squeeze-some _ _ c.requires c.loop-from.invariant c.loop-from-test.true (some_size weight w.if-coefficient-ne0.true))
      | else-coefficient-ne0 w ↦
          rw (w.page-is, w.column-is, w.to-is)
          (squeeze-zero _ _ c.requires c.loop-from.invariant c.loop-from-test.true (no_size weight fits w.if-coefficient-ne0.false))
    ]

use Rattle.std.proofs.Common.{◌<◌, length, arith, length-set}
use Rattle.sessiontext.proofs.Standing.{list-stops}
use Rattle.sessiontext.proofs.straight.list.Goals as goal

pub returns-in_err-part : goal.returns-in_err-part
returns-in_err-part c = rw c.from_residual.ensures tt

pub returns-in-len1-up : goal.returns-in-len1-up
returns-in-len1-up c = (
  simp length-set (omega arith),
  let more : c.loop-i.i < length c.loop-i.column = omega arith in
      list-stops c.args.text.now c.loop-i.column more c.in_ok-part.part c.in_ok-part.behind.now c.loop-i.invariant c.in_ok-part.ensures
      c.in-len1-up.len_at_least c.if-byte-stop.true,
)

-- A byte more is written behind those that stand there.
use Rattle.std.proofs.Common.{arith, add-one}
use Rattle.std.proofs.Math.Seq.{take-suc}
use Rattle.text.specs.Wrote.Laws.{wrote_then}
use Rattle.text.proofs.writing.put.Goals as goal

pub loop-i-preserved : goal.loop-i-preserved
loop-i-preserved c =
    let next = take-suc c.args.text.now c.loop-i.i 0 c.loop-i-test.true in
    rw (add-one, next) (wrote_then c.loop-i.invariant (omega arith) c.byte-end.ensures)

-- A comma in front of each value but the first.
use Rattle.std.proofs.Common.{◌≤◌, length, arith}
use Rattle.text.specs.Text.Lists.{separator}
use Rattle.text.specs.Wrote.{most, Wrote}
use Rattle.text.specs.Wrote.Laws.{wrote_none}
use Rattle.text.proofs.ListLoops.{comma, reached-none, reached-next, reached-all}
use Rattle.text.proofs.lists.RefSliceWritten.write.Goals as goal
use Rattle.text.proofs.lists.RefSliceWritten.write.Goals.{then-i-ne0, else-i-ne0}

pub loop-i-init : goal.loop-i-init
loop-i-init g c = reached-none g.T.Written.text c.args.self.now c.args.at c.args.out.now (omega arith)

pub loop-i-preserved : goal.loop-i-preserved
loop-i-preserved g c =
    let room : length c.args.out.now ≤ most = omega arith in
    let i = c.loop-i.i in
    let front : Wrote (separator i) c.loop-i.end c.loop-i.out c.if-i-ne0.end c.if-i-ne0.out = elim c.if-i-ne0.branch [
      | then-i-ne0 w ↦ rw (comma i w.if-i-ne0.true, w.out-is, w.end-is) w.byte-end.ensures
      | else-i-ne0 w ↦ rw (w.if-i-ne0.false, w.out-is, w.end-is) (wrote_none _ _ (omega arith))
    ]
    in
    reached-next
    g.T.Written.text
    c.args.self.now
    c.args.at
    c.args.out.now
    c.loop-i.invariant
    c.index-self-i.result
    c.loop-i-test.true
    room
    front
    (rw c.index-self-i.is at c.write-end.ensures)

pub returns : goal.returns
returns g c =
    reached-all g.T.Written.text c.args.self.now c.args.at c.args.out.now c.loop-i.invariant c.loop-i-test.false

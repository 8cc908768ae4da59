-- Each turn reads a byte, and a comma ends the number in hand.
use Rattle.std.proofs.Common.{◌≤◌, length, arith}
use Rattle.text.specs.Wrote.{most}
use Rattle.textreading.proofs.Pieces.{reached-none, reached-comma, reached-step, reached-all}
use Rattle.textreading.proofs.list_in.Goals as goal
use Rattle.textreading.proofs.list_in.Goals.{then-byte-eq44, else-byte-eq44}

pub loop-byte-init : goal.loop-byte-init
loop-byte-init c = reached-none c.args.text.now c.args.column.now

pub loop-byte-preserved : goal.loop-byte-preserved
loop-byte-preserved c =
    let room : length c.args.column.now ≤ most = omega arith in
    let r = c.loop-byte.invariant in
    elim c.if-byte-eq44.branch [
      | then-byte-eq44 w ↦
          rw (w.number-is, w.count-is, w.column-is)
          (reached-comma _ _ r room w.keep-count.ensures c.loop-byte-test.true w.if-byte-eq44.true)
      | else-byte-eq44 w ↦
          rw (w.number-is, w.count-is, w.column-is)
          (reached-step _ _ r c.loop-byte-test.true w.if-byte-eq44.false w.step-number.ensures)
    ]

pub returns : goal.returns
returns c =
    let room : length c.args.column.now ≤ most = omega arith in
    reached-all _ _ c.loop-byte.invariant room c.keep.ensures c.loop-byte-test.false

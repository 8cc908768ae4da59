-- A minus where the number is negative, and its size.
use Rattle.std.proofs.Common.{◌≤◌, length, arith}
use mir.Facts.{to_z-of_z}
use Rattle.text.specs.Text.{integer, minus_sign}
use Rattle.text.specs.Text.Decimals.{minus-below, no_minus}
use Rattle.text.specs.Wrote.{most, Wrote}
use Rattle.text.specs.Wrote.Laws.{wrote_none, wrote_then}
use Rattle.text.proofs.numbers.I64Written.write.Goals as goal
use Rattle.text.proofs.numbers.I64Written.write.Goals.{then-self-lt0, else-self-lt0}

pub returns : goal.returns
unfolding integer
returns c =
    let z = c.args.self in
    let room : length c.args.out.now ≤ most = omega arith in
    let same = to_z-of_z c.ranges.self in
    let front : Wrote (minus_sign z) c.args.at c.args.out.now c.if-self-lt0.end c.if-self-lt0.out =
    elim c.if-self-lt0.branch [
      | then-self-lt0 w ↦ rw (minus-below z (rw same at w.if-self-lt0.true), w.out-is, w.end-is) w.byte-end.ensures
      | else-self-lt0 w ↦
          rw (no_minus z (rw same at w.if-self-lt0.false), w.out-is, w.end-is) (wrote_none _ _ (omega arith))
    ]
    in
    wrote_then front room (rw (rw same at c.unsigned_abs.ensures.value) at c.write.ensures)

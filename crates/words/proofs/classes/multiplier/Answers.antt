-- What is found is the first that will do; the part itself always does.
use Rattle.std.proofs.Common.{arith}
use Rattle.std.proofs.Math.Nat.{mul-mod_left}
use Rattle.theory.proofs.ClassData.Periods.{one-multiplier}
use Rattle.words.proofs.classes.multiplier.Goals as goal

pub returns-then-number-by-eq0 : goal.returns-then-number-by-eq0
returns-then-number-by-eq0 c =
    one-multiplier c.args.number c.args.part c.requires.0 c.loop-by.by
    (record { positive = omega arith; divides = c.if-number-by-eq0.true; none_below = c.loop-by.invariant })

pub returns : goal.returns
returns c =
    one-multiplier c.args.number c.args.part c.requires.0 c.args.part
    (record {
      positive = c.requires.0;
      divides = mul-mod_left c.args.number c.args.part;
      none_below = λ j h l. c.loop-by.invariant j h (omega arith);
    })

-- The lengths so far divide the factorial so far, and at the end the quotient is the character degree.
use mir.Facts.{to_z-of_z}
use Rattle.std.proofs.Common.{◌≡◌, ◌∙◌, ◌+◌, ◌-◌, arith}
use Rattle.characters.proofs.Lengths.{NextLength, Quotient, divides-start, divides-next, divides-end}
use Rattle.characters.proofs.frobenius.quotient.Goals as goal
use Rattle.characters.proofs.frobenius.quotient.Goals.{In-loop-length, After-loop-length}

pub loop-length-init : goal.loop-length-init
loop-length-init c = divides-start c.args.shape (omega arith)

next : (c : In-loop-length) → NextLength c.args.shape c.loop-length.factorial c.loop-length.lengths c.loop-length.length
next c =
    let up : c.loop-length.length - 1 + 1 ≡ c.loop-length.length = omega arith in
    rw up at (divides-next c.args.shape (omega arith) c.loop-length.invariant (omega arith))

pub overflow_mul-factorial : goal.overflow_mul-factorial
overflow_mul-factorial c = record { fits = omega (arith, (next c).factorial-room) }

pub times_lengths-lengths-requires : goal.times_lengths-lengths-requires
times_lengths-lengths-requires c = record {
  within = (c.requires.0, (next c).some, (next c).few);
  fits = omega (arith, (next c).lengths-room);
}

pub loop-length-preserved : goal.loop-length-preserved
loop-length-preserved c =
    let same : c.loop-length.length + 1 - 1 ≡ c.loop-length.length = omega arith in
    rw (same, c.times_lengths-lengths.ensures) (next c.before).divides

ended : (c : After-loop-length) → Quotient c.args.shape c.loop-length.factorial c.loop-length.lengths
ended c = divides-end c.args.shape (omega arith) c.loop-length.invariant (λ l. omega arith)

pub nonzero_div-result : goal.nonzero_div-result
nonzero_div-result c = (ended c).some

pub overflow_cast-result : goal.overflow_cast-result
overflow_cast-result c = record { sfits = (ended c).fits }

pub returns : goal.returns
returns c = to_z-of_z (overflow_cast-result c) ∙ (ended c).is

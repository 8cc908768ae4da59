-- Where the cycle stands, what is behind it moves up.
use borrow.Author.Rules.{rules}
use Rattle.std.specs.Prelude.{◌≡◌, ◌-◌, ◌%◌, ◌^◌}
use Rattle.std.proofs.Common.{◌∙◌, ap, arith, mod-eq_of_lt}
use Rattle.theory.specs.Basics.{ℕ}
use Rattle.theory.specs.Partition.{without}
use Rattle.theory.specs.ClassWord.{class_of, class_digits}
use Rattle.theory.proofs.Digits.Laws.{one_shifted, word_below}
use Rattle.words.specs.Parts.{parts_left}
use Rattle.sessions.proofs.Cycles.{strike-start, strike-end, part-read, strike-hit, lowest}
use Rattle.sessions.proofs.lines.strike.Goals as goal

pub loop-part-init : goal.loop-part-init
loop-part-init c =
    let w : ℕ = c.args.class in
    let whole = ap parts_left c.into_iter-part-iterator.ensures.into_iter_gives ∙ c.of-part-items.ensures.parts (search rules) in
    let all : w % 2 ^ 31 ≡ w = mod-eq_of_lt c.requires in
    (tt, tt, rw all (strike-start w c.args.cycle c.requires whole))

pub overflow_add-result : goal.overflow_add-result
overflow_add-result c =
    let l = c.loop-part in
    let read = part-read l.invariant.2 c.in-Some.ensures.steps in
    let one = one_shifted 32 l.left (omega (arith, l.invariant.2.digits)) in
    let behind = one_shifted 32 (l.left - c.in-Some.part) (omega (arith, l.invariant.2.digits)) in
    let low = lowest read behind in
    rw (one, behind, ← low)
    (omega (arith, read.hit c.if-part-cycle.true, word_below 31 (class_digits (without c.args.cycle (class_of c.args.class)))))

pub returns-then-part-cycle : goal.returns-then-part-cycle
returns-then-part-cycle c =
    let l = c.loop-part in
    let read = part-read l.invariant.2 c.in-Some.ensures.steps in
    let one = one_shifted 32 l.left (omega (arith, l.invariant.2.digits)) in
    let behind = one_shifted 32 (l.left - c.in-Some.part) (omega (arith, l.invariant.2.digits)) in
    let low = lowest read behind in
    rw (one, behind, ← low) (strike-hit read c.if-part-cycle.true)

pub loop-part-preserved : goal.loop-part-preserved
loop-part-preserved c =
    let l = c.loop-part in
    let read = part-read l.invariant.2 c.in-Some.ensures.steps in
    let behind = one_shifted 32 (l.left - c.in-Some.part) (omega (arith, l.invariant.2.digits)) in
    let low = lowest read behind in
    (tt, tt, rw (← low) (read.miss c.if-part-cycle.false))

pub returns : goal.returns
returns c = strike-end c.loop-part.invariant.2 c.in-None.ensures.steps.0

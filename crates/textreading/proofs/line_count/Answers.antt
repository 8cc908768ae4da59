-- At the end every newline is counted, and a rest that does not end in one is one line more.
use Rattle.std.proofs.Common.{◌∙◌, ◌-◌, sym, arith, length, get_or, drop_of_length-le, eq-eqb, ne_eqb}
use Rattle.textreading.proofs.Newlines.{lines-newlines}
use Rattle.textreading.proofs.Reading.Lines.{lines-few}
use Rattle.textreading.proofs.line_count.Goals as goal

pub returns-in-Some : goal.returns-in-Some
returns-in-Some c =
    let t = c.args.text.now in
    let last = c.in-Some.ensures.item.3 in
    let ended = lines-newlines t (length t - 1) (omega (arith, last.0)) in
    let rest = ne_eqb (get_or t (length t - 1) 0) 10 (λ e. c.if-byte-ne10.true (last.1 0 ∙ e)) in
    omega (arith, rw (drop_of_length-le t c.loop-byte-test.false) at c.loop-byte.invariant.1, rw rest at ended)

pub returns-in_default : goal.returns-in_default
returns-in_default c =
    let t = c.args.text.now in
    let last = c.in-Some.ensures.item.3 in
    let ended = lines-newlines t (length t - 1) (omega (arith, last.0)) in
    let closed = eq-eqb (get_or t (length t - 1) 0) 10 (sym (last.1 0) ∙ c.if-byte-ne10.false) in
    omega (arith, rw (drop_of_length-le t c.loop-byte-test.false) at c.loop-byte.invariant.1, rw closed at ended)

pub returns-in_default-2 : goal.returns-in_default-2
returns-in_default-2 c =
    let empty = rw c.in_default.is at c.last.ensures.item in
    omega (arith, empty.3, lines-few c.args.text.now)

-- The leading zeros of what is left are its first part; one shift takes it out.
use Rattle.std.proofs.Common.{◌∙◌, ap, length, arith, pos_of_ne-zero}
use Rattle.theory.specs.ClassWord.{class_of}
use Rattle.theory.proofs.ClassWord.Laws.{parts_none}
use Rattle.theory.proofs.ClassWord.Reading.{first_part}
use Rattle.words.proofs.parts.PartsIterator.next.Goals as goal

pub returns-then-self-eq0-clause-steps : goal.returns-then-self-eq0-clause-steps
returns-then-self-eq0-clause-steps c =
    let none = ap class_of c.if-self-eq0.true ∙ parts_none 0 31 in
    (none, none)

pub returns-clause-steps : goal.returns-clause-steps
returns-clause-steps c = (first_part 31 c.args.self.now.rest (pos_of_ne-zero c.if-self-eq0.false) c.args.self.now.below).reads

pub returns-clause-goes : goal.returns-clause-goes
returns-clause-goes c =
    let reads = (first_part 31 c.args.self.now.rest (pos_of_ne-zero c.if-self-eq0.false) c.args.self.now.below).reads in
    record { on = λ f. (tt, tt, omega (arith, ap length reads)); keeps = tt; rests = λ f. tt }

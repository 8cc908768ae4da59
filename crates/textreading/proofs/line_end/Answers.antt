-- A line ends behind its newline, and one with no newline with the text.
use Rattle.std.proofs.Common.{arith, length-drop}
use Rattle.theory.specs.Basics.{drop}
use Rattle.textreading.specs.Reading.Bytes.{byte-found, byte-missing}
use Rattle.textreading.proofs.Reading.Lines.{cut}
use Rattle.textreading.proofs.line_end.Goals as goal

pub returns-then-place-text : goal.returns-then-place-text
returns-then-place-text c =
    let t = drop c.args.at c.args.text.now in
    let found = byte-found 10 t (omega (arith, c.find-place.ensures, length-drop c.args.at c.args.text.now)) in
    omega (arith, c.find-place.ensures, rw found.0 at (cut t).ends)

pub returns-else-place-text : goal.returns-else-place-text
returns-else-place-text c =
    let t = drop c.args.at c.args.text.now in
    let missing = byte-missing 10 t (omega (arith, c.find-place.ensures, length-drop c.args.at c.args.text.now)) in
    omega (arith, c.find-place.ensures, rw missing at (cut t).ends)

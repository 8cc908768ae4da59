-- `characters::lines::add_line`: the value of the line's words has room beside the sum.
use Rattle.characters.proofs.LineValues.{class-below, line-evaluable, value_room, value-added}
use Rattle.characters.proofs.lines.add_line.Goals as goal

pub value-requires : goal.value-requires
value-requires c =
    rw (c.shape.ensures, c.class.ensures) (class-below c.requires.0, line-evaluable c.requires.0)

pub add_signed-requires : goal.add_signed-requires
add_signed-requires c =
    rw (c.value.ensures, c.shape.ensures, c.class.ensures)
    (value_room c.args.line c.requires.0 c.args.sum c.requires.1)

pub returns : goal.returns
returns c =
    rw (c.add_signed.ensures, c.value.ensures, c.shape.ensures, c.class.ensures, c.minus.ensures)
    (value-added c.args.line c.requires.0 c.args.sum c.requires.1)

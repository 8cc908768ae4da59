-- `characters::watches::ratio`: both numbers are within 2^53, and the shape has a character degree.
use native.Mathlib.Omega.{arith}
use Rattle.std.proofs.Common.{◌∙◌, ap}
use Rattle.theory.specs.Limits.{degree_limit}
use Rattle.pages.specs.Sound.Laws.{line-wider}
use Rattle.characters.specs.Calls.{shape_character_degree}
use Rattle.characters.proofs.WatchLaws.{alone-fits, degree-given, ratio-fits, ratio-is}
use Rattle.characters.proofs.watches.ratio.Goals as goal

pub unwrap-degree-requires : goal.unwrap-degree-requires
unwrap-degree-requires c =
    degree-given degree_limit (omega arith) c.args.line c.requires _
    (c.character_degree.ensures ∙ ap (shape_character_degree degree_limit) c.shape.ensures)

pub add_line-requires : goal.add_line-requires
add_line-requires c = (line-wider (omega arith) c.requires, alone-fits degree_limit (omega arith) _ c.requires)

pub divided-requires : goal.divided-requires
divided-requires c =
    rw c.add_line.ensures
    (ratio-fits degree_limit (omega arith) c.args.line c.requires _
    (c.character_degree.ensures ∙ ap (shape_character_degree degree_limit) c.shape.ensures) (omega arith) _
    c.unwrap-degree.ensures)

pub returns : goal.returns
returns c =
    rw (c.divided.ensures, c.add_line.ensures)
    (ratio-is degree_limit (omega arith) c.args.line c.requires _
    (c.character_degree.ensures ∙ ap (shape_character_degree degree_limit) c.shape.ensures) (omega arith) _
    c.unwrap-degree.ensures)

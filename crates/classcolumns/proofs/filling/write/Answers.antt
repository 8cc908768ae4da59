-- The table of no cycles is one of theirs; and that of all cycles has the column's values as its entries.
use Rattle.std.proofs.Common.{refl, ◌∙◌, ap, arith}
use Rattle.theory.specs.Basics.{List, ℤ}
use Rattle.words.specs.Answers.{at_front}
use Rattle.classcolumns.specs.Private.Places.{place_count, shape_places}
use Rattle.classcolumns.specs.Private.Columns.{entries}
use Rattle.classcolumns.proofs.PlaceLaws.{shapes-placed}
use Rattle.classcolumns.proofs.KeptTables.{kept-empty}
use Rattle.classcolumns.proofs.Entries.{entries-column}
use Rattle.classcolumns.proofs.filling.write.Goals as goal

pub fill-requires : goal.fill-requires
fill-requires c = record {
  cycles = (c.requires.cycles.0, kept-empty shapes-placed place_count c.place.result refl c.place.ensures.0);
}

pub returns : goal.returns
returns c =
    let given = c.requires.cycles in
    c.copy_out.ensures
    ∙ ap (λ (xs : List ℤ). at_front xs c.args.values.now)
    (ap (entries shape_places c.fill.new.table) given.1 ∙ entries-column (omega arith) given.0 c.fill.ensures)

-- `gathered::commit` meets its contract: what is committed, or the refusal beside the slip that was given.
use borrow.Author.Rules.{of_calls}
use Rattle.sessions.proofs.Told.{Beside, told-beside}
use Rattle.gathered.proofs.commit.Goals as goal

pub returns : goal.returns
returns c =
    let same : Beside c.args.slip c.committed.result c.map_err.result = search (of_calls, c.map_err.ensures.cases) in
    rw (told-beside c.args.slip c.committed.result c.map_err.result same) c.committed.ensures

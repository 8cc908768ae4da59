-- `oldlists::from_old`: it hands on the move of the list.
use Rattle.oldlists.specs.Calls.{shapes_from_old}
use Rattle.oldlists.proofs.from_old.Goals as goal

pub returns : goal.returns
unfolding shapes_from_old
returns c = c.moved.ensures

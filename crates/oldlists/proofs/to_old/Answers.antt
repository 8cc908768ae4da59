-- `oldlists::to_old`: it hands on the move of the list.
use Rattle.oldlists.specs.Calls.{shapes_to_old}
use Rattle.oldlists.proofs.to_old.Goals as goal

pub returns : goal.returns
unfolding shapes_to_old
returns c = c.moved.ensures

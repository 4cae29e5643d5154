-- `tree::put` meets its contract. Assumes nothing.
use Rattle.tree.proofs.put.Goals as goal

pub returns : goal.returns
returns c = rw c.settled.ensures

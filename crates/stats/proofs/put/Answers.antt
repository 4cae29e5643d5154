-- `stats::put` meets its contract. Assumes nothing.
use Rattle.stats.proofs.put.Goals as goal

pub returns : goal.returns
returns c = rw c.settled.ensures

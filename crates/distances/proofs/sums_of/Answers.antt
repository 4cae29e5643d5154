-- `distances::sums_of` meets its contract. The sums so far are those of the first k rows. Assumes nothing.
use Rattle.distances.proofs.Laws.{sums_none}
use Rattle.distances.proofs.sums_of.Goals as goal

pub loop-k-init : goal.loop-k-init
loop-k-init c = sums_none _ _ _ _ c.requires.n_bound

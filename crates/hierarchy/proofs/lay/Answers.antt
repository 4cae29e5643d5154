-- `hierarchy::lay` meets its contract. Assumes nothing.
use Rattle.lent.specs.Grid.{over}
use Rattle.hierarchy.proofs.Laws.{lays}
use Rattle.hierarchy.proofs.lay.Goals as goal

pub returns : goal.returns
unfolding over
returns c = lays _ _ _ _ c.clear.ensures (rw c.copy_from_slice.ensures.after)

-- `clusters::add_row` meets its contract. Assumes nothing.
use Rattle.lent.proofs.Sums.{on_start, on_step}
use Rattle.clusters.specs.Clusters.{term}
use Rattle.clusters.proofs.add_row.Goals as goal

pub loop-j-init : goal.loop-j-init
loop-j-init c = on_start _ _

pub loop-j-preserved : goal.loop-j-preserved
unfolding term
loop-j-preserved c = on_step _ _ _ _ _ c.loop-j.invariant (rw c.at.ensures)

-- `clusters::weighted_variance` meets its contract. Assumes nothing.
use Rattle.lent.proofs.Sums.{sums_start, sums_step}
use Rattle.clusters.proofs.weighted_variance.Goals as goal

pub loop-i-init : goal.loop-i-init
loop-i-init c = sums_start _ _

pub loop-i-preserved : goal.loop-i-preserved
loop-i-preserved c = sums_step _ _ _ _ _ c.loop-i.invariant c.add_row-v.ensures

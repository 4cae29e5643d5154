-- `clusters::recip_sum` meets its contract. Assumes nothing.
use Rattle.std.proofs.Common.{arith}
use Rattle.lent.proofs.Sums.{sum_start, sum_step, sum_end}
use Rattle.clusters.specs.Clusters.{recip, recip_sum}
use Rattle.clusters.proofs.recip_sum.Goals as goal

pub loop-a-init : goal.loop-a-init
loop-a-init c = sum_start _

pub loop-a-preserved : goal.loop-a-preserved
unfolding recip
loop-a-preserved c = sum_step _ _ _ _ c.loop-a.invariant (rw c.own_variance.ensures)

pub returns : goal.returns
unfolding recip_sum
returns c = sum_end _ _ _ _ c.loop-a.invariant (omega arith) (omega arith)

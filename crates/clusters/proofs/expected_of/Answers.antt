-- `clusters::expected_of` meets its contract. Assumes nothing.
use Rattle.std.proofs.Common.{refl}
use Rattle.lent.proofs.Sums.{sum_start, sum_step}
use Rattle.clusters.proofs.expected_of.Goals as goal

pub loop-k-init : goal.loop-k-init
loop-k-init c = sum_start _

pub loop-k-preserved : goal.loop-k-preserved
loop-k-preserved c = sum_step _ _ _ _ c.loop-k.invariant refl

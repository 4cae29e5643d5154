-- `bisection::total` meets its contract: s is the sum of the first weights. Assumes nothing.
use Rattle.std.proofs.Common.{refl}
use Rattle.lent.proofs.Sums.{sum_start, sum_step}
use Rattle.bisection.proofs.total.Goals as goal

pub loop-w-init : goal.loop-w-init
loop-w-init c = sum_start _

pub loop-w-preserved : goal.loop-w-preserved
loop-w-preserved c = sum_step _ _ _ _ c.loop-w.invariant refl

-- `stats::mean` meets its contract. The sum so far is that of the rows passed. Assumes nothing.
use native.Mathlib.Omega.{arith}
use Rattle.lent.proofs.Sums.{sum_start, sum_step, sum_end}
use Rattle.stats.specs.Covariance.{mean_of}
use Rattle.stats.proofs.mean.Goals as goal

pub loop-row-init : goal.loop-row-init
loop-row-init c = sum_start _

pub loop-row-preserved : goal.loop-row-preserved
loop-row-preserved c = sum_step _ _ _ _ c.loop-row.invariant c.at-s.ensures

pub returns : goal.returns
unfolding mean_of
returns c = rw (sum_end _ _ _ c.args.rows c.loop-row.invariant (omega arith) (omega arith), c.count.ensures)

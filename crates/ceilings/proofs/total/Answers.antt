-- `ceilings::total` meets its contract: the sum stays at most one above 1,000,000, so that it fits. Assumes nothing.
use native.Mathlib.Omega.{arith}
use Rattle.ceilings.proofs.Totals.{kept_start, kept_more, kept_end}
use Rattle.ceilings.proofs.total.Goals as goal

pub loop-x-init : goal.loop-x-init
loop-x-init c = kept_start c.args.list.now

pub loop-x-preserved : goal.loop-x-preserved
loop-x-preserved c = kept_more c.args.list.now c.loop-x.sum _ c.loop-x.x-index c.loop-x.invariant c.min-sum.ensures

pub returns : goal.returns
returns c = kept_end c.args.list.now c.loop-x.sum c.loop-x.x-index c.loop-x.invariant (omega arith) (omega arith)

-- `groups::total` meets its contract. Assumes nothing.
use Rattle.std.proofs.Common.{arith}
use Rattle.groups.proofs.Sheet.{sum_none, sum_more}
use Rattle.groups.proofs.total.Goals as goal

pub loop-m-init : goal.loop-m-init
loop-m-init c = (sum_none c.args.parts.now c.args.members.now, omega arith)

pub loop-m-preserved : goal.loop-m-preserved
loop-m-preserved c = (sum_more c.args.parts.now c.args.members.now _ c.loop-m.invariant.0 c.loop-m-test.true, omega (arith, c.requires.small _ (c.requires.low _ c.loop-m-test.true)))

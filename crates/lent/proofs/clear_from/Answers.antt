-- `lent::clear_from` meets its contract: the loop clears one entry a turn. Assumes nothing.
use Rattle.std.proofs.Common.{arith}
use Rattle.lent.proofs.Clearing.{clearing_start, clearing_step, clearing_end}
use Rattle.lent.proofs.clear_from.Goals as goal

pub loop-i-init : goal.loop-i-init
loop-i-init g c = clearing_start _ _ _

pub loop-i-preserved : goal.loop-i-preserved
loop-i-preserved g c = rw c.ZERO.ensures (clearing_step c.loop-i.invariant (omega (arith, c.loop-i.auto.out)))

pub returns : goal.returns
returns g c = clearing_end c.loop-i.invariant (omega (arith, c.loop-i.auto.out))

-- `tails::row_return` meets its contract. Assumes nothing.
use Rattle.std.proofs.Common.{arith}
use Rattle.lent.proofs.Sums.{sum_start, sum_step, sum_end}
use Rattle.tails.specs.Tail.{gain, row_return}
use Rattle.tails.proofs.row_return.Goals as goal

pub loop-k-init : goal.loop-k-init
loop-k-init c = sum_start _

pub loop-k-preserved : goal.loop-k-preserved
unfolding gain
loop-k-preserved c = sum_step _ _ _ _ c.loop-k.invariant (rw c.at.ensures)

pub returns : goal.returns
unfolding row_return
returns c = sum_end _ _ _ _ c.loop-k.invariant (omega arith) (omega arith)

-- `lent::copy` meets its contract: the loop copies one entry a turn. Assumes nothing.
use native.Mathlib.Omega.{arith}
use lib.Ieee.{nan}
use Rattle.lent.proofs.Copying.{copying_start, copying_step, copying_end}
use Rattle.lent.proofs.copy.Goals as goal

pub loop-n-init : goal.loop-n-init
loop-n-init c = copying_start _ _

pub loop-n-preserved : goal.loop-n-preserved
loop-n-preserved c = copying_step nan c.loop-n.invariant (omega arith) (omega arith)

pub returns : goal.returns
returns c = copying_end c.loop-n.invariant (omega arith)

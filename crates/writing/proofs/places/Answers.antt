-- `writing::places` meets its contract. Assumes nothing.
use native.Mathlib.Omega.{arith}
use Rattle.writing.proofs.Digits.{counting_start, counting_step, counting_end, counting_le}
use Rattle.writing.proofs.places.Goals as goal

pub loop-left-init : goal.loop-left-init
loop-left-init c = counting_start _ (omega arith)

pub overflow_add-k : goal.overflow_add-k
overflow_add-k c = omega (arith, counting_le c.loop-left.invariant)

pub loop-left-preserved : goal.loop-left-preserved
loop-left-preserved c = counting_step c.loop-left.invariant (omega arith)

pub returns : goal.returns
returns c = counting_end c.loop-left.invariant c.loop-left-test.false

-- `arithmetic::root::lowered` meets its contract. Assumes nothing.
use Rattle.std.proofs.Common.{◌*◌, leb, arith}
use Rattle.arithmetic.proofs.root.Laws.{lower_le, lower_near}
use Rattle.arithmetic.proofs.root.lowered.Goals as goal

pub overflow_sub-result : goal.overflow_sub-result
overflow_sub-result c = lower_le c.args.q (leb (2 * c.args.q) c.args.t) (omega arith)

pub returns : goal.returns
returns c v e = lower_near v c.args.q c.args.t (omega arith) e (omega arith)

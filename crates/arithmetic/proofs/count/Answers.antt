-- `arithmetic::count` meets its contract. Assumes nothing.
use Rattle.std.proofs.Common.{arith}
use Rattle.arithmetic.proofs.Whole.{castable, counted}
use Rattle.arithmetic.proofs.count.Goals as goal

pub int_to_float-result : goal.int_to_float-result
int_to_float-result c = castable _ (omega arith)

pub int_to_float-result-2 : goal.int_to_float-result-2
int_to_float-result-2 c = castable _ (omega arith)

pub returns : goal.returns
returns c = counted c.args.n c.ranges.n.fits

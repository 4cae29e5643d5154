-- `arithmetic::to_bits` meets its contract. Assumes nothing.
use Rattle.std.proofs.Common.{sym, ap}
use lib.Ieee.{binary64, to_bits}
use Rattle.arithmetic.proofs.Facts.{other_nan, same_no_nan}
use Rattle.arithmetic.proofs.to_bits.Goals as goal

pub returns-then-x : goal.returns-then-x
unfolding to_bits
returns-then-x c = sym (ap (to_bits binary64) (other_nan _ c.if-x.true))

pub float_to_bits-result : goal.float_to_bits-result
float_to_bits-result c = same_no_nan _ c.if-x.false

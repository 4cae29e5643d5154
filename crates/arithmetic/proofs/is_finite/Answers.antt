-- `arithmetic::is_finite` meets its contract. Assumes nothing.
use lib.Ieee.{of_bits, neg, div}
use Rattle.arithmetic.proofs.Facts.{finite_above, finite_not}
use Rattle.arithmetic.proofs.is_finite.Goals as goal

pub returns-then-x : goal.returns-then-x
unfolding of_bits neg div
returns-then-x c = finite_above _ c.if-x.true

pub returns-else-x : goal.returns-else-x
unfolding of_bits neg div
returns-else-x c = finite_not _ c.if-x.false

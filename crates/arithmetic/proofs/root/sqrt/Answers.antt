-- `arithmetic::root::sqrt` meets its contract. Assumes nothing.
use lib.Ieee.{of_bits, div}
use Rattle.arithmetic.proofs.root.Cases.{is_positive, is_infinite, is_zero, is_negative}
use Rattle.arithmetic.proofs.root.sqrt.Goals as goal

pub positive_root-requires : goal.positive_root-requires
unfolding of_bits div
positive_root-requires c = is_positive c.args.x c.if-x.true c.if-x-2.true

pub returns-else-x-2 : goal.returns-else-x-2
unfolding of_bits div
returns-else-x-2 c = is_infinite c.args.x c.if-x.true c.if-x-2.false

pub returns-then-x-3 : goal.returns-then-x-3
unfolding of_bits div
returns-then-x-3 c = is_zero c.args.x c.if-x-3.true

pub returns-else-x-3 : goal.returns-else-x-3
unfolding of_bits div
returns-else-x-3 c = is_negative c.args.x c.if-x.false c.if-x-3.false

-- `arithmetic::root::guess` meets its contract. Assumes nothing.
use Rattle.std.proofs.Common.{◌+◌, ◌-◌, ◌/◌, arith}
use Rattle.arithmetic.proofs.Facts.{pattern_no_nan}
use Rattle.arithmetic.proofs.root.guess.Goals as goal

pub float_from_bits-x : goal.float_from_bits-x
float_from_bits-x c = pattern_no_nan (c.args.i + 1) (omega arith)

pub float_from_bits-y0 : goal.float_from_bits-y0
float_from_bits-y0 c = pattern_no_nan (0x5fdc_0000_0000_0000 - c.args.i / 2) (omega arith)

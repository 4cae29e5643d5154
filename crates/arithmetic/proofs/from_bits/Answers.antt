-- `arithmetic::from_bits` meets its contract. Assumes nothing.
use Rattle.std.proofs.Common.{sym, ◌∙◌}
use Rattle.arithmetic.proofs.Facts.{made_nan, pattern_nan, pattern_no_nan}
use Rattle.arithmetic.proofs.from_bits.Goals as goal

pub returns-then-b-gt9218868437227405312 : goal.returns-then-b-gt9218868437227405312
returns-then-b-gt9218868437227405312 c = made_nan ∙ sym (pattern_nan _ c.if-b-gt9218868437227405312.true)

pub float_from_bits-result : goal.float_from_bits-result
float_from_bits-result c = pattern_no_nan _ c.if-b-gt9218868437227405312.false

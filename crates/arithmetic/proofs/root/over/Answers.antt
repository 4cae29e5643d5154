-- `arithmetic::root::over` meets its contract. Assumes nothing.
use Rattle.std.proofs.Common.{arith}
use Rattle.arithmetic.proofs.root.Laws.{parts}
use Rattle.arithmetic.proofs.root.over.Goals as goal

pub overflow_mul-mid : goal.overflow_mul-mid
overflow_mul-mid c = omega (arith, parts c.args.q c.requires)

pub overflow_mul-low-2 : goal.overflow_mul-low-2
overflow_mul-low-2 c = omega (arith, parts c.args.q c.requires)

pub overflow_add-low : goal.overflow_add-low
overflow_add-low c = omega (arith, parts c.args.q c.requires)

pub overflow_add-low-2 : goal.overflow_add-low-2
overflow_add-low-2 c = omega (arith, parts c.args.q c.requires)

pub overflow_mul-result : goal.overflow_mul-result
overflow_mul-result c = omega (arith, parts c.args.q c.requires)

pub overflow_add-result : goal.overflow_add-result
overflow_add-result c = omega (arith, parts c.args.q c.requires)

pub overflow_add-result-2 : goal.overflow_add-result-2
overflow_add-result-2 c = omega (arith, parts c.args.q c.requires)

pub returns : goal.returns
returns c = omega (arith, parts c.args.q c.requires)

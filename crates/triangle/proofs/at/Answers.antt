-- `triangle::at` meets its contract. Assumes nothing.
use native.Mathlib.Omega.{arith}
use Rattle.lent.proofs.Laws.{cell_lt}
use Rattle.triangle.proofs.Places.{cell_below}
use Rattle.triangle.proofs.at.Goals as goal

pub overflow_mul-result : goal.overflow_mul-result
overflow_mul-result c = omega (arith, cell_below c.args.n c.args.r c.args.c c.requires.0 c.requires.1 c.requires.2)

pub overflow_add-result : goal.overflow_add-result
overflow_add-result c = omega (arith, cell_below c.args.n c.args.r c.args.c c.requires.0 c.requires.1 c.requires.2)

pub offset_bounds-xs-r : goal.offset_bounds-xs-r
offset_bounds-xs-r c = omega (arith, cell_below c.args.n c.args.r c.args.c c.requires.0 c.requires.1 c.requires.2)

pub bounds-xs-r : goal.bounds-xs-r
bounds-xs-r c = omega (arith, cell_lt c.args.n c.args.n c.args.r c.args.c c.requires.1 c.requires.2)

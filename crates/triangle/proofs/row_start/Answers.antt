-- `triangle::row_start` meets its contract. Assumes nothing.
use native.Mathlib.Omega.{arith}
use mathlib.Core.Path.{refl}
use Rattle.triangle.specs.Triangle.{row_of}
use Rattle.triangle.proofs.Places.{cell_below, row_small, row_code}
use borrow.Author.Rules.{Fits-under}
use mir.Syntax.{w64}
use Rattle.triangle.proofs.row_start.Goals as goal

pub overflow_mul-result : goal.overflow_mul-result
overflow_mul-result c = omega (arith, cell_below c.args.n c.args.r c.args.r c.requires.0 c.requires.1 c.requires.1)

pub overflow_add-result : goal.overflow_add-result
overflow_add-result c = omega (arith, cell_below c.args.n c.args.r c.args.r c.requires.0 c.requires.1 c.requires.1)

pub overflow_add-result-in-Square : goal.overflow_add-result-in-Square
overflow_add-result-in-Square c = omega (arith, cell_below c.args.n c.args.r c.args.r c.requires.0 c.requires.1 c.requires.1)

pub overflow_mul-result-in-Triangle-2 : goal.overflow_mul-result-in-Triangle-2
overflow_mul-result-in-Triangle-2 c = Fits-under w64 _ 8193 (row_small _ _ (omega arith) (omega arith)) tt

pub returns-in-Square : goal.returns-in-Square
unfolding row_of
returns-in-Square c = rw c.in-Square.is refl

pub returns-in-Triangle : goal.returns-in-Triangle
unfolding row_of
returns-in-Triangle c = rw c.in-Triangle.is (row_code c.args.n c.args.r c.requires.1)

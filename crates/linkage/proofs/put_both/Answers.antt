-- `linkage::put_both` meets its contract. Assumes nothing.
use native.Mathlib.Omega.{arith}
use lib.ListN.{length-set}
use Rattle.lent.proofs.Laws.{cell_lt, square_in}
use Rattle.triangle.proofs.Within.{within}
use Rattle.linkage.proofs.Forms.{square_cell, wrote_square, wrote_triangle}
use Rattle.linkage.proofs.put_both.Goals as goal

pub offset_bounds-d-k : goal.offset_bounds-d-k
offset_bounds-d-k c = omega (arith, (within _ _ _ _ _ _ c.requires.0 c.requires.1 c.requires.2 c.requires.3 c.requires.5 c.requires.4).1)

pub bounds-d-k : goal.bounds-d-k
bounds-d-k c = (within _ _ _ _ _ _ c.requires.0 c.requires.1 c.requires.2 c.requires.3 c.requires.5 c.requires.4).0

pub overflow_mul-d : goal.overflow_mul-d
overflow_mul-d c =
    omega (arith, cell_lt c.args.n c.args.n c.args.i c.args.x c.requires.2 c.requires.1, square_in c.args.n c.requires.0)

pub overflow_add-d : goal.overflow_add-d
overflow_add-d c =
    omega (arith, cell_lt c.args.n c.args.n c.args.i c.args.x c.requires.2 c.requires.1, square_in c.args.n c.requires.0)

pub offset_bounds-d-i : goal.offset_bounds-d-i
offset_bounds-d-i c =
    omega (arith, cell_lt c.args.n c.args.n c.args.i c.args.x c.requires.2 c.requires.1, square_in c.args.n c.requires.0)

pub bounds-d-i : goal.bounds-d-i
bounds-d-i c =
    simp length-set (square_cell c.args.form c.args.n c.args.i c.args.x _ c.in-Square.is c.requires.2 c.requires.1 c.requires.5)

pub returns-in-Square : goal.returns-in-Square
returns-in-Square c = wrote_square _ _ _ _ _ _ _ c.in-Square.is c.requires.4

pub returns-in_default : goal.returns-in_default
returns-in_default c = wrote_triangle _ _ _ _ _ _ _ c.in_default.is c.requires.4

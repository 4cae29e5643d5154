-- `linkage::place` meets its contract. Assumes nothing.
use native.Mathlib.Omega.{arith}
use mathlib.Core.Path.{refl}
use Rattle.lent.proofs.Laws.{cell_lt, square_in}
use Rattle.triangle.specs.Triangle.{place_of}
use Rattle.triangle.proofs.Places.{place_small}
use Rattle.triangle.proofs.Within.{place_right}
use Rattle.linkage.proofs.Forms.{lower, below_place}
use Rattle.linkage.proofs.place.Goals as goal

pub overflow_mul-result : goal.overflow_mul-result
overflow_mul-result c =
    omega (arith, cell_lt c.args.n c.args.n c.args.r c.args.c c.requires.1 c.requires.2, square_in c.args.n c.requires.0)

pub overflow_add-result : goal.overflow_add-result
overflow_add-result c =
    omega (arith, cell_lt c.args.n c.args.n c.args.r c.args.c c.requires.1 c.requires.2, square_in c.args.n c.requires.0)

pub offset_bounds-shifts-r : goal.offset_bounds-shifts-r
offset_bounds-shifts-r c = omega (arith, c.requires.0, c.requires.1)

pub bounds-shifts-r : goal.bounds-shifts-r
bounds-shifts-r c = omega (arith, c.requires.0, c.requires.1)

pub overflow_add-result-then-r-c : goal.overflow_add-result-then-r-c
overflow_add-result-then-r-c c =
    omega (arith, place_right c.args.form c.args.n c.args.r c.args.c _ c.args.shifts.now c.if-r-c.true c.requires.2 c.requires.4 refl, place_small c.args.form c.args.n c.args.r c.args.c c.requires.0 c.requires.1 c.requires.2 c.requires.3)

pub offset_bounds-shifts-c : goal.offset_bounds-shifts-c
offset_bounds-shifts-c c = omega (arith, c.requires.0, c.requires.2)

pub bounds-shifts-c : goal.bounds-shifts-c
bounds-shifts-c c = omega (arith, c.requires.0, c.requires.2)

pub overflow_sub-result-else-r-c : goal.overflow_sub-result-else-r-c
overflow_sub-result-else-r-c c =
    omega (arith, lower c.args.r c.args.c c.requires.3 c.if-r-c.false)

pub overflow_add-result-else-r-c : goal.overflow_add-result-else-r-c
overflow_add-result-else-r-c c =
    omega (arith, below_place c.args.form c.args.n c.args.r c.args.c _ c.args.shifts.now c.in-Triangle.is c.if-r-c.false c.requires.3 c.requires.1 c.requires.4 refl, place_small c.args.form c.args.n c.args.r c.args.c c.requires.0 c.requires.1 c.requires.2 c.requires.3)

pub returns-in-Square : goal.returns-in-Square
unfolding place_of
returns-in-Square c = rw c.in-Square.is refl

pub returns-then-r-c : goal.returns-then-r-c
returns-then-r-c c = place_right c.args.form c.args.n c.args.r c.args.c _ c.args.shifts.now c.if-r-c.true c.requires.2 c.requires.4 refl

pub returns-else-r-c : goal.returns-else-r-c
returns-else-r-c c = below_place c.args.form c.args.n c.args.r c.args.c _ c.args.shifts.now c.in-Triangle.is c.if-r-c.false c.requires.3 c.requires.1 c.requires.4 refl

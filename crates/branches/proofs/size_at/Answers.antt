-- `branches::size_at` meets its contract. Both children's sizes stand already. Assumes nothing.
use native.Mathlib.Omega.{arith}
use Rattle.branches.proofs.Passes.{size_leaf, row_read, left_sized, right_sized, sizes_add, sizes_fit}
use Rattle.branches.proofs.size_at.Goals as goal

pub returns-then-v-n : goal.returns-then-v-n
returns-then-v-n c = size_leaf c.requires.measured.rooted _ c.if-v-n.true

pub bounds-rows-k : goal.bounds-rows-k
bounds-rows-k c = omega (arith, row_read c.requires.measured c.if-v-n.false c.requires.v_bound)

pub bounds-rows-k-2 : goal.bounds-rows-k-2
bounds-rows-k-2 c = row_read c.requires.measured c.if-v-n.false c.requires.v_bound

pub offset_bounds-sizes-left : goal.offset_bounds-sizes-left
offset_bounds-sizes-left c = omega (arith, left_sized c.requires.measured c.if-v-n.false c.requires.v_bound)

pub bounds-sizes-left : goal.bounds-sizes-left
bounds-sizes-left c = left_sized c.requires.measured c.if-v-n.false c.requires.v_bound

pub offset_bounds-sizes-right : goal.offset_bounds-sizes-right
offset_bounds-sizes-right c = omega (arith, right_sized c.requires.measured c.if-v-n.false c.requires.v_bound)

pub bounds-sizes-right : goal.bounds-sizes-right
bounds-sizes-right c = right_sized c.requires.measured c.if-v-n.false c.requires.v_bound

pub overflow_add-result : goal.overflow_add-result
overflow_add-result c = omega (arith, sizes_fit c.requires.measured c.if-v-n.false c.requires.v_bound)

pub returns : goal.returns
returns c = sizes_add c.requires.measured c.if-v-n.false c.requires.v_bound

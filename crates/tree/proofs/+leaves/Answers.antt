-- The proof of the cycle of calls {leaves}. The measure is the node's id, which is less at each child. What is asked of lists is in `Walk`.
use native.Mathlib.Omega.{arith}
use Rattle.tree.proofs.Tree.{row_fits, left_falls, right_falls}
use Rattle.tree.proofs.Walk.{room_leaf, wrote_leaf, ready_left, mid_size, left_fits, ready_right, wrote_fork, kept_fork, total_fits}
use Rattle.tree.proofs.+leaves.Goals as goal

pub give-requires : goal.give-requires
give-requires t c = room_leaf c.requires c.if-at-n.true

pub returns-then-at-n : goal.returns-then-at-n
returns-then-at-n t c = wrote_leaf _ _ _ _ _ c.if-at-n.true c.give.ensures

pub overflow_mul-left : goal.overflow_mul-left
overflow_mul-left t c = omega (arith, row_fits c.requires.on c.if-at-n.false)

pub offset_bounds-rows-k : goal.offset_bounds-rows-k
offset_bounds-rows-k t c = omega (arith, row_fits c.requires.on c.if-at-n.false)

pub bounds-rows-k : goal.bounds-rows-k
bounds-rows-k t c = omega (arith, row_fits c.requires.on c.if-at-n.false)

pub overflow_mul-right : goal.overflow_mul-right
overflow_mul-right t c = omega (arith, row_fits c.requires.on c.if-at-n.false)

pub overflow_add-right : goal.overflow_add-right
overflow_add-right t c = omega (arith, row_fits c.requires.on c.if-at-n.false)

pub offset_bounds-rows-k-2 : goal.offset_bounds-rows-k-2
offset_bounds-rows-k-2 t c = omega (arith, row_fits c.requires.on c.if-at-n.false)

pub bounds-rows-k-2 : goal.bounds-rows-k-2
bounds-rows-k-2 t c = row_fits c.requires.on c.if-at-n.false

pub leaves-l-requires : goal.leaves-l-requires
leaves-l-requires t c =
    (omega (arith, left_falls c.requires.on c.if-at-n.false), ready_left c.requires c.if-at-n.false)

pub offset_bounds-out-l : goal.offset_bounds-out-l
offset_bounds-out-l t c =
    omega (arith, left_fits c.requires c.if-at-n.false c.leaves-l.ensures, mid_size c.requires c.if-at-n.false c.leaves-l.ensures, c.well_formed.1.1.1.0.1)

pub slice_bounds-leaves-count : goal.slice_bounds-leaves-count
slice_bounds-leaves-count t c = left_fits c.requires c.if-at-n.false c.leaves-l.ensures

pub slice_bounds-leaves-start : goal.slice_bounds-leaves-start
slice_bounds-leaves-start t c = left_fits c.requires c.if-at-n.false c.leaves-l.ensures

pub leaves-r-requires : goal.leaves-r-requires
leaves-r-requires t c =
    (omega (arith, right_falls c.requires.on c.if-at-n.false), ready_right c.requires c.if-at-n.false c.leaves-l.ensures)

pub overflow_add-result : goal.overflow_add-result
overflow_add-result t c =
    omega (arith, total_fits c.requires c.if-at-n.false c.leaves-l.ensures c.leaves-r.ensures, c.well_formed.1.1.1.0.0)

pub shape_of-out : goal.shape_of-out
shape_of-out t c =
    kept_fork c.requires c.if-at-n.false c.leaves-l.ensures c.leaves-r.ensures

pub returns : goal.returns
returns t c =
    wrote_fork c.requires c.if-at-n.false c.leaves-l.ensures c.leaves-r.ensures

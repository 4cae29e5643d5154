-- The proof of the cycle of calls {nodes_below}. The measure is the node's id, which is less at each child. What is asked of lists is in `Nodes`. Assumes nothing.
use native.Mathlib.Omega.{arith}
use Rattle.tree.proofs.Tree.{row_fits, left_falls, right_falls}
use Rattle.groups.proofs.Nodes.{room_first, headed_some, wrote_leaf, ready_left, mid_size, left_fits, ready_right, wrote_fork, total_fits}
use Rattle.groups.proofs.+nodes_below.Goals as goal

pub bounds-out-0 : goal.bounds-out-0
bounds-out-0 t c = room_first c.requires

pub returns-then-at-n : goal.returns-then-at-n
returns-then-at-n t c = wrote_leaf c.requires c.if-at-n.true

pub offset_bounds-rows-k : goal.offset_bounds-rows-k
offset_bounds-rows-k t c = omega (arith, row_fits c.requires.on c.if-at-n.false)

pub bounds-rows-k : goal.bounds-rows-k
bounds-rows-k t c = omega (arith, row_fits c.requires.on c.if-at-n.false)

pub offset_bounds-rows-k-2 : goal.offset_bounds-rows-k-2
offset_bounds-rows-k-2 t c = omega (arith, row_fits c.requires.on c.if-at-n.false)

pub bounds-rows-k-2 : goal.bounds-rows-k-2
bounds-rows-k-2 t c = row_fits c.requires.on c.if-at-n.false

pub slice_bounds-nodes_below-count : goal.slice_bounds-nodes_below-count
slice_bounds-nodes_below-count t c = headed_some c.requires

pub slice_bounds-nodes_below-start : goal.slice_bounds-nodes_below-start
slice_bounds-nodes_below-start t c = headed_some c.requires

pub nodes_below-l-requires : goal.nodes_below-l-requires
nodes_below-l-requires t c = (omega (arith, left_falls c.requires.on c.if-at-n.false), ready_left c.requires c.if-at-n.false)

pub overflow_add-l : goal.overflow_add-l
overflow_add-l t c = omega (arith, left_fits c.requires c.if-at-n.false c.nodes_below-l.ensures, mid_size c.requires c.if-at-n.false c.nodes_below-l.ensures, c.well_formed.1.1.1.0.0)

pub offset_bounds-out-l : goal.offset_bounds-out-l
offset_bounds-out-l t c = omega (arith, left_fits c.requires c.if-at-n.false c.nodes_below-l.ensures, mid_size c.requires c.if-at-n.false c.nodes_below-l.ensures, c.well_formed.1.1.1.0.1)

pub slice_bounds-nodes_below-count-2 : goal.slice_bounds-nodes_below-count-2
slice_bounds-nodes_below-count-2 t c = left_fits c.requires c.if-at-n.false c.nodes_below-l.ensures

pub slice_bounds-nodes_below-start-2 : goal.slice_bounds-nodes_below-start-2
slice_bounds-nodes_below-start-2 t c = left_fits c.requires c.if-at-n.false c.nodes_below-l.ensures

pub nodes_below-r-requires : goal.nodes_below-r-requires
nodes_below-r-requires t c = (omega (arith, right_falls c.requires.on c.if-at-n.false), ready_right c.requires c.if-at-n.false c.nodes_below-l.ensures)

pub overflow_add-result : goal.overflow_add-result
overflow_add-result t c = omega (arith, total_fits c.requires c.if-at-n.false c.nodes_below-l.ensures c.nodes_below-r.ensures, c.well_formed.1.1.1.0.0)

pub returns : goal.returns
returns t c = wrote_fork c.requires c.if-at-n.false c.nodes_below-l.ensures c.nodes_below-r.ensures

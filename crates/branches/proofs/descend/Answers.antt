-- `branches::descend` meets its contract. The first places and the depths go down together, each row's children from its node. Assumes nothing.
use native.Mathlib.Omega.{arith}
use Rattle.branches.proofs.Passes.{entries_in, left_within, right_within, left_kept, right_kept, placing_start, placing_fits, placing_step, placing_end, sinking_start, sinking_step, sinking_end}
use Rattle.branches.proofs.descend.Goals as goal

pub loop-k-init : goal.loop-k-init
loop-k-init c = (placing_start c.requires.measured c.requires.emptied, sinking_start c.requires.measured.rooted c.requires.emptied_2)

pub bounds-rows-k : goal.bounds-rows-k
bounds-rows-k c = omega (arith, entries_in c.requires.measured.rooted c.loop-k.invariant.0 c.requires.emptied.room c.loop-k-test.true)

pub bounds-rows-k-in-loop-k : goal.bounds-rows-k-in-loop-k
bounds-rows-k-in-loop-k c = entries_in c.requires.measured.rooted c.loop-k.invariant.0 c.requires.emptied.room c.loop-k-test.true

pub offset_bounds-sizes-left : goal.offset_bounds-sizes-left
offset_bounds-sizes-left c = omega (arith, left_within c.requires.measured.rooted c.loop-k.invariant.0 c.requires.emptied.room c.loop-k-test.true _ c.requires.measured.room)

pub bounds-sizes-left : goal.bounds-sizes-left
bounds-sizes-left c = left_within c.requires.measured.rooted c.loop-k.invariant.0 c.requires.emptied.room c.loop-k-test.true _ c.requires.measured.room

pub overflow_add-q : goal.overflow_add-q
overflow_add-q c = omega (arith, placing_fits c.requires.measured c.requires.emptied c.loop-k.invariant.0 c.loop-k-test.true)

pub offset_bounds-firsts-left : goal.offset_bounds-firsts-left
offset_bounds-firsts-left c = omega (arith, left_kept c.requires.measured.rooted c.loop-k.invariant.0 c.requires.emptied.room c.loop-k-test.true)

pub bounds-firsts-left : goal.bounds-firsts-left
bounds-firsts-left c = left_kept c.requires.measured.rooted c.loop-k.invariant.0 c.requires.emptied.room c.loop-k-test.true

pub offset_bounds-firsts-right : goal.offset_bounds-firsts-right
offset_bounds-firsts-right c = omega (arith, right_within c.requires.measured.rooted c.loop-k.invariant.0 c.requires.emptied.room c.loop-k-test.true _ c.requires.emptied.room)

pub bounds-firsts-right : goal.bounds-firsts-right
bounds-firsts-right c = right_kept c.requires.measured.rooted c.loop-k.invariant.0 c.requires.emptied.room c.loop-k-test.true _

pub offset_bounds-depths-left : goal.offset_bounds-depths-left
offset_bounds-depths-left c = omega (arith, left_kept c.requires.measured.rooted c.loop-k.invariant.1 c.requires.emptied_2.room c.loop-k-test.true)

pub bounds-depths-left : goal.bounds-depths-left
bounds-depths-left c = left_kept c.requires.measured.rooted c.loop-k.invariant.1 c.requires.emptied_2.room c.loop-k-test.true

pub offset_bounds-depths-right : goal.offset_bounds-depths-right
offset_bounds-depths-right c = omega (arith, right_within c.requires.measured.rooted c.loop-k.invariant.1 c.requires.emptied_2.room c.loop-k-test.true _ c.requires.emptied_2.room)

pub bounds-depths-right : goal.bounds-depths-right
bounds-depths-right c = right_kept c.requires.measured.rooted c.loop-k.invariant.1 c.requires.emptied_2.room c.loop-k-test.true _

pub loop-k-preserved : goal.loop-k-preserved
loop-k-preserved c = (placing_step c.requires.measured c.requires.emptied c.loop-k.invariant.0 c.loop-k-test.true, sinking_step c.requires.measured.rooted c.requires.emptied_2 c.loop-k.invariant.1 c.loop-k-test.true)

pub returns : goal.returns
returns c = record {
  firsts_after = placing_end c.requires.measured c.requires.emptied c.loop-k.invariant.0 c.loop-k-test.false;
  depths_after = sinking_end c.requires.measured.rooted c.requires.emptied_2 c.loop-k.invariant.1 c.loop-k-test.false;
}

-- `cutting::take_byte` meets its contract. Assumes nothing.
use Prim.Native.Nat.{◌+◌}
use mathlib.Core.Path.{refl, sym}
use native.Mathlib.Omega.{arith}
use lib.ListN.{set, length-set}
use lib.Seq.{length-take-le}
use Rattle.cutting.proofs.Steps.{ends, holds, fills}
use Rattle.cutting.proofs.take_byte.Goals as goal

pub slice_bounds-take_line-end-then-b-eq10 : goal.slice_bounds-take_line-end-then-b-eq10
slice_bounds-take_line-end-then-b-eq10 c = sym (length-take-le c.args.feed.held c.args.held.now (omega arith))

pub shape_of-table-then-b-eq10 : goal.shape_of-table-then-b-eq10
shape_of-table-then-b-eq10 c = c.take_line-after.auto.table

pub shape_of-held-then-b-eq10 : goal.shape_of-held-then-b-eq10
shape_of-held-then-b-eq10 c = refl

pub returns-then-b-eq10 : goal.returns-then-b-eq10
returns-then-b-eq10 c = record {
  held_bound_2 = omega arith;
  running = ends c.args.feed c.args.table.now c.args.held.now c.args.b _ _ c.if-b-eq10.true c.take_line-after.ensures c.take_line-after.auto.table;
}

pub shape_of-held-then-n-lt-MOST_LINE : goal.shape_of-held-then-n-lt-MOST_LINE
shape_of-held-then-n-lt-MOST_LINE c = length-set c.args.held.now c.args.feed.held c.args.b

pub returns-then-n-lt-MOST_LINE : goal.returns-then-n-lt-MOST_LINE
returns-then-n-lt-MOST_LINE c = record {
  held_bound_2 = omega arith;
  running = λ S u w. holds c.args.feed c.args.table.now c.args.held.now c.args.b c.if-b-eq10.false (omega arith) S u w c.if-n-lt-MOST_LINE.true;
}

pub slice_bounds-take_line-end-2 : goal.slice_bounds-take_line-end-2
slice_bounds-take_line-end-2 c = omega (arith, length-set c.args.held.now c.args.feed.held c.args.b)

pub slice_bounds-take_line-end-3 : goal.slice_bounds-take_line-end-3
slice_bounds-take_line-end-3 c = sym (length-take-le (c.args.feed.held + 1) (set c.args.held.now c.args.feed.held c.args.b) (omega (arith, length-set c.args.held.now c.args.feed.held c.args.b)))

pub shape_of-table : goal.shape_of-table
shape_of-table c = c.take_line-after-2.auto.table

pub shape_of-held : goal.shape_of-held
shape_of-held c = length-set c.args.held.now c.args.feed.held c.args.b

pub returns : goal.returns
returns c = record {
  held_bound_2 = omega arith;
  running = λ S u w. fills c.args.feed c.args.table.now c.args.held.now c.args.b c.if-b-eq10.false (omega arith) S u w _ _ (omega arith) c.take_line-after-2.ensures c.take_line-after-2.auto.table;
}

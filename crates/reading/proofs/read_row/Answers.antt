-- `reading::read_row` meets its contract. `Rowing` says where the walk over the fields stands. Assumes nothing.
use Prim.Native.Nat.{◌+◌}
use mathlib.Core.Path.{◌≡◌}
use mathlib.Core.Logic.{inl, inr}
use lib.ListN.{length}
use lib.Ieee.{nan}
use Rattle.fields.specs.Split.{split}
use Rattle.reading.specs.Inner.{cell_at}
use Rattle.reading.proofs.Front.{Front, front_step}
use native.Mathlib.Omega.{arith}
use Rattle.reading.proofs.Walk.{field_within, rowing_start, row_bad, cell_is, rowing_step, row_end}
use Rattle.reading.proofs.read_row.Goals as goal
use Rattle.reading.proofs.read_row.Goals.{then-j-row, else-j-row}

pub loop-at-init : goal.loop-at-init
loop-at-init c = rowing_start _ _

pub slice_bounds-read_cell-count : goal.slice_bounds-read_cell-count
slice_bounds-read_cell-count c = omega (arith, field_within c.loop-at.invariant.walk c.loop-at-test.true _ c.end_of-e.ensures)

pub slice_bounds-read_cell-start : goal.slice_bounds-read_cell-start
slice_bounds-read_cell-start c = omega (arith, field_within c.loop-at.invariant.walk c.loop-at-test.true _ c.end_of-e.ensures)

pub slice_bounds-read_cell-end : goal.slice_bounds-read_cell-end
slice_bounds-read_cell-end c = omega (arith, field_within c.loop-at.invariant.walk c.loop-at-test.true _ c.end_of-e.ensures)

pub shape_of-row-in_default : goal.shape_of-row-in_default
shape_of-row-in_default c = c.loop-at.invariant.sized

pub returns-in_default : goal.returns-in_default
returns-in_default c =
    row_bad c.loop-at.invariant c.loop-at-test.true _ c.end_of-e.ensures _ c.read_cell-cell.ensures _ c.in_default.is

pub bounds-row-j : goal.bounds-row-j
bounds-row-j c = c.if-j-row.true

pub overflow_add-at : goal.overflow_add-at
overflow_add-at c =
    omega (arith, field_within c.loop-at.invariant.walk c.loop-at-test.true _ c.end_of-e.ensures, c.requires.line_len_bound)

pub overflow_add-j : goal.overflow_add-j
overflow_add-j c =
    omega (arith, c.loop-at.invariant.walk.deep, c.loop-at-test.true, c.requires.line_len_bound)

pub loop-at-smaller : goal.loop-at-smaller
loop-at-smaller c =
    omega (arith, field_within c.loop-at.invariant.walk c.loop-at-test.true _ c.end_of-e.ensures)

pub loop-at-preserved : goal.loop-at-preserved
loop-at-preserved c =
    let came : (length c.if-j-row.row ≡ length c.loop-at.row) × Front nan (cell_at (split 9 c.args.line.now)) (c.loop-at.j + 1) c.if-j-row.row = front_step nan _ _ _ _ _ c.loop-at.invariant.front
    (cell_is c.loop-at.invariant c.loop-at-test.true _ c.end_of-e.ensures _ c.read_cell-cell.ensures _ c.in-Some.is)
    (elim c.if-j-row.branch [ then-j-row t ↦ inl (t.if-j-row.true, t.row-is) | else-j-row t ↦ inr (t.if-j-row.false, t.row-is) ]) in
    rowing_step c.loop-at.invariant c.loop-at-test.true _ c.end_of-e.ensures _ c.read_cell-cell.ensures _ c.in-Some.is _ came.0 came.1

pub shape_of-row : goal.shape_of-row
shape_of-row c = c.loop-at.invariant.sized

pub returns : goal.returns
returns c =
    row_end c.loop-at.invariant _ c.requires.row_len_bound c.loop-at-test.false

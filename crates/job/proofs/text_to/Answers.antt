-- `job::text_to` meets its contract. Assumes nothing.
use native.Mathlib.Omega.{arith}
use native.Mathlib.Numerals.{unary_clauses}
use mathlib.Core.Path.{sym, ◌∙◌}
use lib.Seq.{length-take-le}
use Rattle.job.proofs.Ends.{told_short, told_room, cleared}
use Rattle.job.proofs.Jobs.{sized, cells_fit, starts_fit, limits_fit, held, placed}
use Rattle.job.proofs.text_to.Goals as goal

pub shape_of-out-then-out-least_for : goal.shape_of-out-then-out-least_for
shape_of-out-then-out-least_for c = c.clear.auto.out

pub returns-then-out-least_for : goal.returns-then-out-least_for
returns-then-out-least_for c =
    told_short _ _ _ (omega (arith, c.if-out-least_for.true, c.least_for.ensures, c.clear.auto.out)) _ _ c.clear.ensures c.unlisted.ensures

pub overflow_mul-k : goal.overflow_mul-k
overflow_mul-k c = omega (arith, (sized _ _ _ _ _ c.read_job-read.ensures _ c.block_of-block.ensures).cells_few)

pub slice_bounds-cells-end : goal.slice_bounds-cells-end
slice_bounds-cells-end c = cells_fit _ _ _ _ _ c.read_job-read.ensures _ c.block_of-block.ensures c.read_job-read.auto.cells

pub slice_bounds-allocate-end : goal.slice_bounds-allocate-end
slice_bounds-allocate-end c = sym (length-take-le _ _ (cells_fit _ _ _ _ _ c.read_job-read.ensures _ c.block_of-block.ensures c.read_job-read.auto.cells))

pub allocate-found-requires : goal.allocate-found-requires
allocate-found-requires c = held _ _ _ _ _ c.read_job-read.ensures _ c.block_of-block.ensures

pub slice_bounds-starts-end : goal.slice_bounds-starts-end
slice_bounds-starts-end c = starts_fit _ _ _ _ _ c.read_job-read.ensures _ c.block_of-block.ensures c.read_job-read.auto.starts

pub slice_bounds-finish-end : goal.slice_bounds-finish-end
slice_bounds-finish-end c = sym (length-take-le _ _ (starts_fit _ _ _ _ _ c.read_job-read.ensures _ c.block_of-block.ensures c.read_job-read.auto.starts))

pub slice_bounds-ceilings-end : goal.slice_bounds-ceilings-end
slice_bounds-ceilings-end c = limits_fit _ _ _ _ _ c.read_job-read.ensures _ c.block_of-block.ensures c.read_job-read.auto.ceilings _ c.ceilings_in-limits.ensures

pub slice_bounds-finish-end-2 : goal.slice_bounds-finish-end-2
slice_bounds-finish-end-2 c = sym (length-take-le _ _ (limits_fit _ _ _ _ _ c.read_job-read.ensures _ c.block_of-block.ensures c.read_job-read.auto.ceilings _ c.ceilings_in-limits.ensures))

pub finish-requires : goal.finish-requires
finish-requires c = record {
  placed = placed _ _ _ _ _ c.read_job-read.ensures _ c.block_of-block.ensures _ c.ceilings_in-limits.ensures;
  allotted = c.allocate-found.ensures;
  blank_listing = cleared _ _ _ c.clear.ensures c.clear.auto.out (omega (arith, c.if-out-least_for.false, c.least_for.ensures));
}

pub shape_of-out : goal.shape_of-out
shape_of-out c = c.finish.auto.out ∙ c.clear.auto.out

pub returns : goal.returns
returns c = told_room _ _ _ _ _ _ c.clear.auto.out c.finish.ensures

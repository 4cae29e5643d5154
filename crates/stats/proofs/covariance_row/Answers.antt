-- `stats::covariance_row` meets its contract. What is written so far is the rows above and j cells of row i. Assumes nothing.
use native.Mathlib.Omega.{arith}
use Rattle.lent.proofs.Laws.{done_cell}
use Rattle.lent.proofs.Fill.{cells_start, cells_step, cells_end}
use Rattle.stats.proofs.Laws.{cell_taken}
use Rattle.stats.proofs.covariance_row.Goals as goal

pub loop-j-init : goal.loop-j-init
loop-j-init c = cells_start _ _ _ _ c.requires.out_value

pub loop-j-preserved : goal.loop-j-preserved
loop-j-preserved c =
    let v = cell_taken _ _ _ _ _ _ _ _ _ c.covariance_cell-v.ensures c.sums_of-sums.ensures c.requires.kept (omega arith) (omega arith) (λ h. done_cell _ _ _ _ _ _ _ _ c.loop-j.invariant h (omega arith)) in
    cells_step _ _ _ _ _ _ _ _ _ c.put.ensures c.loop-j.invariant v (omega arith) (omega arith) c.requires.w_in_bounds

pub returns : goal.returns
returns c = cells_end _ _ _ _ _ _ c.loop-j.invariant (omega arith) (omega arith)

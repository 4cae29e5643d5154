-- `distances::distance_row` meets its contract. What is written so far is the rows above and j cells of row i. Assumes nothing.
use native.Mathlib.Omega.{arith}
use Rattle.lent.proofs.Laws.{done_cell}
use Rattle.lent.proofs.Fill.{cells_start, cells_step, cells_end}
use Rattle.distances.proofs.distance_row.Goals as goal

pub loop-j-init : goal.loop-j-init
loop-j-init c = cells_start _ _ _ _ c.requires.out_value

pub distance_cell-requires-clause-i_value : goal.distance_cell-requires-clause-i_value
distance_cell-requires-clause-i_value c = λ h. done_cell _ _ _ _ _ _ _ _ c.loop-j.invariant h (omega arith)

pub loop-j-preserved : goal.loop-j-preserved
loop-j-preserved c =
    cells_step _ _ _ _ _ _ _ _ _ c.put.ensures c.loop-j.invariant (rw c.settled-v.ensures c.distance_cell.ensures) (omega arith) (omega arith) c.requires.n_in_bounds

pub returns : goal.returns
returns c = cells_end _ _ _ _ _ _ c.loop-j.invariant (omega arith) (omega arith)

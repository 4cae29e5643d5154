-- `distances::fill_row` meets its contract. What is written so far is the rows above and j cells of row i. Assumes nothing.
use mathlib.Core.Path.{◌∙◌}
use native.Mathlib.Omega.{arith}
use Rattle.lent.proofs.Laws.{done_cell}
use Rattle.lent.proofs.Fill.{cells_start, cells_step, cells_end}
use Rattle.distances.proofs.Laws.{between_picked}
use Rattle.distances.proofs.fill_row.Goals as goal

pub loop-j-init : goal.loop-j-init
loop-j-init c = cells_start _ _ _ _ c.requires.out_value

pub loop-j-preserved : goal.loop-j-preserved
loop-j-preserved c =
    let v = between_picked _ _ _ _ _ _ _ c.between_cell.ensures c.sums_of-sums.ensures (omega arith) (λ h. done_cell _ _ _ _ _ _ _ _ c.loop-j.invariant h c.requires.i_lt_n) in
    cells_step _ _ _ _ _ _ _ _ _ c.put.ensures c.loop-j.invariant (c.settled-v.ensures ∙ v) c.requires.i_lt_n (omega arith) c.requires.n_in_bounds

pub returns : goal.returns
returns c = cells_end _ _ _ _ _ _ c.loop-j.invariant (omega arith) (omega arith)

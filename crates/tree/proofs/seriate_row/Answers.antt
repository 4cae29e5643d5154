-- `tree::seriate_row` meets its contract. What is written so far is the rows above and j cells of row i. Assumes nothing.
use native.Mathlib.Omega.{arith}
use Rattle.lent.proofs.Fill.{filling, cells_start, cells_step, cells_end}
use Rattle.tree.specs.Order.{seriated_cell}
use Rattle.tree.proofs.seriate_row.Goals as goal

pub loop-j-init : goal.loop-j-init
loop-j-init c = cells_start _ _ _ _ c.requires.out_value

pub at-v-requires : goal.at-v-requires
at-v-requires c = search (c.requires.seriable.low, filling)

pub loop-j-preserved : goal.loop-j-preserved
unfolding seriated_cell
loop-j-preserved c = cells_step _ _ _ _ _ _ _ _ _ c.put.ensures c.loop-j.invariant c.at-v.ensures (omega arith) (omega arith) c.requires.n_in_bounds

pub returns : goal.returns
returns c = cells_end _ _ _ _ _ _ c.loop-j.invariant (omega arith) (omega arith)

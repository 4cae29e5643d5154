-- What the loops of `tree::seriate_rows` keep true. Assumes nothing.
use mathlib.Core.Path.{◌≡◌}
use Rattle.lent.specs.Grid.{grid, over}
use Rattle.tree.specs.Order.{seriated_cell}
use Rattle.tree.proofs.seriate_rows.Given as goal

abbrev pub invariant-loop-i : goal.invariant-loop-i
invariant-loop-i l = l.out ≡ over (grid l.i l.n (seriated_cell l.matrix l.n l.order)) l.initial.out

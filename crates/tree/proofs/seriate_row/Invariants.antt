-- What the loops of `tree::seriate_row` keep true. Assumes nothing.
use mathlib.Core.Path.{◌≡◌}
use Rattle.lent.specs.Grid.{over}
use Rattle.lent.specs.Inner.{part}
use Rattle.tree.specs.Order.{seriated_cell}
use Rattle.tree.proofs.seriate_row.Given as goal

abbrev pub invariant-loop-j : goal.invariant-loop-j
invariant-loop-j l = l.out ≡ over (part l.i l.j l.n (seriated_cell l.matrix l.n l.order)) l.initial.out

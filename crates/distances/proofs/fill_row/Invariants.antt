-- What the loops of `distances::fill_row` keep true. Assumes nothing.
use mathlib.Core.Path.{◌≡◌}
use Rattle.lent.specs.Grid.{over}
use Rattle.lent.specs.Inner.{part}
use Rattle.distances.specs.Distances.{between_cell}
use Rattle.distances.proofs.fill_row.Given as goal

abbrev pub invariant-loop-j : goal.invariant-loop-j
invariant-loop-j l = l.out ≡ over (part l.i l.j l.n (between_cell l.d l.n)) l.initial.out

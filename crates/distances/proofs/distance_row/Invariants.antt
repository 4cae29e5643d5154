-- What the loops of `distances::distance_row` keep true. Assumes nothing.
use mathlib.Core.Path.{◌≡◌}
use Rattle.lent.specs.Grid.{over}
use Rattle.lent.specs.Inner.{part}
use Rattle.distances.specs.Distances.{distance_cell}
use Rattle.distances.proofs.distance_row.Given as goal

abbrev pub invariant-loop-j : goal.invariant-loop-j
invariant-loop-j l = l.out ≡ over (part l.i l.j l.n (distance_cell l.of l.corr l.n)) l.initial.out

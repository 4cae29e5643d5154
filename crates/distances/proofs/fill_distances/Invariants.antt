-- What the loops of `distances::fill_distances` keep true. Assumes nothing.
use mathlib.Core.Path.{◌≡◌}
use Rattle.lent.specs.Grid.{grid, over}
use Rattle.distances.specs.Distances.{distance_cell}
use Rattle.distances.proofs.fill_distances.Given as goal

abbrev pub invariant-loop-i : goal.invariant-loop-i
invariant-loop-i l = l.out ≡ over (grid l.i l.n (distance_cell l.of l.corr l.n)) l.initial.out

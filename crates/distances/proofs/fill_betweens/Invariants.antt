-- What the loops of `distances::fill_betweens` keep true. Assumes nothing.
use mathlib.Core.Path.{◌≡◌}
use Rattle.lent.specs.Grid.{grid, over}
use Rattle.distances.specs.Distances.{between_cell}
use Rattle.distances.proofs.fill_betweens.Given as goal

abbrev pub invariant-loop-i : goal.invariant-loop-i
invariant-loop-i l = l.out ≡ over (grid l.i l.n (between_cell l.d l.n)) l.initial.out

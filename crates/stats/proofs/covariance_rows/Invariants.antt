-- What the loops of `stats::covariance_rows` keep true. Assumes nothing.
use mathlib.Core.Path.{◌≡◌}
use Rattle.lent.specs.Grid.{grid, over}
use Rattle.stats.specs.Covariance.{covariance_cell}
use Rattle.stats.proofs.covariance_rows.Given as goal

abbrev pub invariant-loop-i : goal.invariant-loop-i
invariant-loop-i l = l.out ≡ over (grid l.i l.w (covariance_cell l.xs l.rows l.w)) l.initial.out

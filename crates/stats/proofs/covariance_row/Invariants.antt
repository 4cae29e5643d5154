-- What the loops of `stats::covariance_row` keep true. Assumes nothing.
use mathlib.Core.Path.{◌≡◌}
use Rattle.lent.specs.Grid.{over}
use Rattle.lent.specs.Inner.{part}
use Rattle.stats.specs.Covariance.{covariance_cell}
use Rattle.stats.proofs.covariance_row.Given as goal

abbrev pub invariant-loop-j : goal.invariant-loop-j
invariant-loop-j l = l.out ≡ over (part l.i l.j l.w (covariance_cell l.xs l.rows l.w)) l.initial.out

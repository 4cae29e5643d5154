-- What the loops of `stats::mean` keep true. Assumes nothing.
use mathlib.Core.Path.{◌≡◌}
use Rattle.lent.specs.Grid.{cell, sum_to}
use Rattle.stats.proofs.mean.Given as goal

abbrev pub invariant-loop-row : goal.invariant-loop-row
invariant-loop-row l = l.s ≡ sum_to l.row (λ k. cell l.xs l.w k l.c)

-- What the loops of `stats::means` keep true. Assumes nothing.
use mathlib.Core.Path.{◌≡◌}
use lib.ListN.{length}
use Rattle.stats.specs.Covariance.{mean_of}
use Rattle.stats.specs.Inner.{Kept}
use Rattle.stats.proofs.means.Given as goal

abbrev pub invariant-loop-c : goal.invariant-loop-c
invariant-loop-c l = (length l.m ≡ 64) × Kept l.m l.c (mean_of l.xs l.rows l.w)

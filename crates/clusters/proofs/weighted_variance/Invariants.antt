-- What the loops of `clusters::weighted_variance` keep true. Assumes nothing.
use Rattle.std.proofs.Common.{◌≡◌, length}
use Rattle.lent.specs.Grid.{sum_rows}
use Rattle.clusters.specs.Clusters.{term}
use Rattle.clusters.proofs.weighted_variance.Given as goal

abbrev pub invariant-loop-i : goal.invariant-loop-i
invariant-loop-i l = l.v ≡ sum_rows l.i (length l.assets) (term l.cov l.n l.assets l.w)

-- What the loops of `clusters::recip_sum` keep true. Assumes nothing.
use Rattle.std.proofs.Common.{◌≡◌}
use Rattle.lent.specs.Grid.{sum_to}
use Rattle.clusters.specs.Clusters.{recip}
use Rattle.clusters.proofs.recip_sum.Given as goal

abbrev pub invariant-loop-a : goal.invariant-loop-a
invariant-loop-a l = l.s ≡ sum_to l.a-index (recip l.cov l.n l.assets)

-- What the loops of `clusters::any_low` keep true. Assumes nothing.
use Rattle.std.proofs.Common.{◌≡◌, false}
use lib.Ieee.{le}
use Rattle.arithmetic.specs.Constants.{pz}
use Rattle.lent.specs.Grid.{any_to}
use Rattle.clusters.specs.Clusters.{nth, variance_at}
use Rattle.clusters.proofs.any_low.Given as goal

abbrev pub invariant-loop-a : goal.invariant-loop-a
invariant-loop-a l = any_to l.a-index (λ i. le (variance_at l.cov l.n (nth l.assets i)) pz) ≡ false

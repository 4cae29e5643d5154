-- What the loops of `clusters::expected_of` keep true. Assumes nothing.
use Rattle.std.proofs.Common.{◌≡◌, get_or}
use lib.Ieee.{nan, binary64, mul}
use Rattle.lent.specs.Grid.{sum_to}
use Rattle.clusters.specs.Clusters.{nth}
use Rattle.clusters.proofs.expected_of.Given as goal

abbrev pub invariant-loop-k : goal.invariant-loop-k
invariant-loop-k l = l.mu ≡ sum_to l.k (λ i. mul binary64 (get_or l.w i nan) (get_or l.expected (nth l.assets i) nan))

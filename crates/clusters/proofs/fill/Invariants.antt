-- What the loops of `clusters::fill` keep true. Assumes nothing.
use Rattle.std.proofs.Common.{◌≡◌}
use lib.Ieee.{binary64, div}
use Rattle.lent.specs.Grid.{tab, over}
use Rattle.clusters.specs.Clusters.{recip}
use Rattle.clusters.proofs.fill.Given as goal

abbrev pub invariant-loop-k : goal.invariant-loop-k
invariant-loop-k l = l.out ≡ over (tab l.k (λ j. div binary64 (recip l.cov l.n l.assets j) l.s)) l.initial.out

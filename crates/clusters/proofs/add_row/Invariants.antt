-- What the loops of `clusters::add_row` keep true. Assumes nothing.
use Rattle.std.proofs.Common.{◌≡◌}
use Rattle.lent.specs.Grid.{sum_on}
use Rattle.clusters.specs.Clusters.{term}
use Rattle.clusters.proofs.add_row.Given as goal

abbrev pub invariant-loop-j : goal.invariant-loop-j
invariant-loop-j l = l.s ≡ sum_on l.v l.j (term l.cov l.n l.assets l.w l.i)

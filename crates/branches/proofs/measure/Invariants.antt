-- What the loops of `branches::measure` keep true. Assumes nothing.
use Rattle.std.proofs.Common.{◌≡◌}
use Rattle.lent.specs.Grid.{tab, over}
use Rattle.branches.specs.Branch.{size_of}
use Rattle.branches.proofs.measure.Given as goal

abbrev pub invariant-loop-v : goal.invariant-loop-v
invariant-loop-v l = l.sizes ≡ over (tab l.v (size_of l.rows l.n)) l.initial.sizes

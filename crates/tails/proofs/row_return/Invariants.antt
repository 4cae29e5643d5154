-- What the loops of `tails::row_return` keep true. Assumes nothing.
use Rattle.std.proofs.Common.{◌≡◌}
use Rattle.lent.specs.Grid.{sum_to}
use Rattle.tails.specs.Tail.{gain}
use Rattle.tails.proofs.row_return.Given as goal

abbrev pub invariant-loop-k : goal.invariant-loop-k
invariant-loop-k l = l.v ≡ sum_to l.k (gain l.returns l.n l.assets l.w l.r)

-- What the loops of `ordering::settle_last` keep true. Assumes nothing.
use Rattle.std.proofs.Common.{◌≡◌}
use Rattle.ordering.proofs.settle_last.Given as goal

abbrev pub invariant-loop-k : goal.invariant-loop-k
invariant-loop-k l = l.xs ≡ l.initial.xs

-- What the loop of `tree::tally` keeps true. Assumes nothing.
use Rattle.tree.proofs.Counted.{Tallying}
use Rattle.tree.proofs.tally.Given as goal

abbrev pub invariant-loop-x : goal.invariant-loop-x
invariant-loop-x l = Tallying l.list l.t l.x-index

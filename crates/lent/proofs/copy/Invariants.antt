-- What the loop of `lent::copy` keeps true. Assumes nothing.
use Rattle.lent.proofs.Copying.{Copying}
use Rattle.lent.proofs.copy.Given as goal

abbrev pub invariant-loop-n : goal.invariant-loop-n
invariant-loop-n l = Copying l.from l.initial.to l.n l.to

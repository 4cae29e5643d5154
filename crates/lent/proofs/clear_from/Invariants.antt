-- What the loop of `lent::clear_from` keeps true. Assumes nothing.
use Rattle.lent.proofs.Clearing.{Clearing}
use Rattle.lent.proofs.clear_from.Given as goal

abbrev pub invariant-loop-i : goal.invariant-loop-i
invariant-loop-i g l = Clearing g.T.Zero.ZERO l.start l.initial.out l.i l.out

-- What the loops of `distances::sums_of` keep true. Assumes nothing.
use Prim.Native.Nat.{◌+◌}
use Rattle.lent.specs.Inner.{Held}
use Rattle.distances.specs.Inner.{sum_of}
use Rattle.distances.proofs.sums_of.Given as goal

abbrev pub invariant-loop-k : goal.invariant-loop-k
invariant-loop-k l = Held l.sums (l.i + 1) l.n (sum_of l.d l.n l.i l.k)

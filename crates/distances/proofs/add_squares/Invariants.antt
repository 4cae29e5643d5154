-- What the loops of `distances::add_squares` keep true. Assumes nothing.
use Prim.Native.Nat.{◌+◌}
use Rattle.lent.specs.Inner.{Held}
use Rattle.distances.specs.Inner.{sum_of, with_square}
use Rattle.distances.proofs.add_squares.Given as goal

abbrev pub invariant-loop-j : goal.invariant-loop-j
invariant-loop-j l = Held l.sums (l.i + 1) l.j (with_square l.d l.n l.i l.k l.x) × Held l.sums l.j l.n (sum_of l.d l.n l.i l.k)

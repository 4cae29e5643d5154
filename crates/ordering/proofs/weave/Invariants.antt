-- What the loops of `ordering::weave` keep true, and what falls. Assumes nothing.
use Rattle.std.proofs.Common.{◌+◌, ◌-◌, length}
use Rattle.ordering.proofs.Merging.{Woven}
use Rattle.ordering.proofs.weave.Given as goal

abbrev pub invariant-loop-i : goal.invariant-loop-i
invariant-loop-i l = Woven l.room l.initial.xs l.xs l.i l.j l.k

abbrev pub decreases-loop-i : goal.decreases-loop-i
decreases-loop-i l = (length l.room - l.i) + (length l.initial.xs - l.j)

-- What the loops of `arithmetic::root::search` keep true, and what falls. Assumes nothing.
use Rattle.std.proofs.Common.{◌+◌, ◌-◌, ◌*◌, ◌^◌, ◌<◌, ◌≤◌}
use Rattle.arithmetic.proofs.root.search.Given as goal

abbrev pub invariant-loop-hi : goal.invariant-loop-hi
invariant-loop-hi l = (l.lo < l.hi) × (l.hi < 2 ^ 53) × (l.lo * l.lo + l.lo < l.m * 2 ^ 52) × (l.m * 2 ^ 52 ≤ l.hi * l.hi + l.hi)

abbrev pub decreases-loop-hi : goal.decreases-loop-hi
decreases-loop-hi l = l.hi - l.lo

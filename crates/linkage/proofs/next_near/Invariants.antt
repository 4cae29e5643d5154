-- What the loops of `linkage::next_near` keep true, and what falls. Assumes nothing.
use Prim.Native.Nat.{◌-◌, ◌≤◌}
use Rattle.linkage.specs.Inner.{FarTo}
use Rattle.linkage.proofs.next_near.Given as goal

abbrev pub invariant-loop-j : goal.invariant-loop-j
invariant-loop-j l = (l.from ≤ l.j) × (l.j ≤ l.m) × FarTo l.row l.slots l.limit l.from l.j

abbrev pub decreases-loop-j : goal.decreases-loop-j
decreases-loop-j l = l.m - l.j

-- What the loops of `groups::total` keep true. Assumes nothing.
use Rattle.std.proofs.Common.{◌≡◌, ◌*◌, ◌≤◌, take}
use Rattle.branches.specs.Branch.{subtotal}
use Rattle.groups.proofs.total.Given as goal

abbrev pub invariant-loop-m : goal.invariant-loop-m
invariant-loop-m l = (l.sum ≡ subtotal l.parts (take l.m-index l.members)) × (l.sum ≤ 1000001 * l.m-index)

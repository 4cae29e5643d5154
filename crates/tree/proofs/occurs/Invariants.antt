-- What the loop of `tree::occurs` keeps true. Assumes nothing.
use Prim.Native.Nat.{◌+◌, ◌≤◌}
use mathlib.Core.Path.{◌≡◌}
use lib.ListN.{drop}
use Rattle.lent.specs.Count.{count}
use Rattle.tree.proofs.occurs.Given as goal

abbrev pub invariant-loop-y : goal.invariant-loop-y
invariant-loop-y l = (l.c ≤ l.y-index) × (count l.x l.list ≡ l.c + count l.x (drop l.y-index l.list))

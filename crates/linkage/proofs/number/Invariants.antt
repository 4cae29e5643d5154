-- What the loop of `linkage::number` keeps true. Assumes nothing.
use Prim.Native.Nat.{◌≤◌}
use mathlib.Core.Path.{◌≡◌}
use Rattle.lent.specs.Range.{range}
use Rattle.linkage.specs.Inner.{numbered}
use Rattle.linkage.proofs.number.Given as goal

abbrev pub invariant-loop-k : goal.invariant-loop-k
invariant-loop-k l = (l.k ≤ l.n) × (l.ids ≡ range numbered 0 l.k l.initial.ids)

-- What the loop of `linkage::move_all` keeps true. Assumes nothing.
use Prim.Native.Nat.{◌≤◌}
use mathlib.Core.Path.{◌≡◌}
use lib.ListN.{length}
use Rattle.lent.specs.Range.{range}
use Rattle.linkage.specs.Inner.{drawn_at}
use Rattle.linkage.proofs.move_all.Given as goal

abbrev pub invariant-loop-j : goal.invariant-loop-j
invariant-loop-j l = (l.j ≤ l.m) × (l.d ≡ range (drawn_at l.method l.form l.n l.sizes l.slots l.pair.x.0 l.pair.y.0 l.pair.dxy) 0 l.j l.initial.d) × (length l.d ≡ length l.initial.d)

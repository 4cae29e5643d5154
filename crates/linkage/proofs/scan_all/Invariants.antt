-- What the loop of `linkage::scan_all` keeps true. Assumes nothing.
use Prim.Native.Nat.{◌≤◌}
use Rattle.triangle.specs.Inner.{held_at}
use Rattle.linkage.proofs.Packed.{Found, Reached}
use Rattle.linkage.proofs.scan_all.Given as goal

abbrev pub invariant-loop-i : goal.invariant-loop-i
invariant-loop-i l = (l.i ≤ l.m) × Reached (held_at l.form l.n l.d) l.ids l.slots l.m l.i l.best l.pairs l.from × Found l.best

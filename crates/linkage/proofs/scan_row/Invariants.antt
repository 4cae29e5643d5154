-- What the loops of `linkage::scan_row` keep true, and what falls. Assumes nothing.
use Prim.Native.Nat.{◌-◌, ◌≤◌}
use mathlib.Core.Path.{◌≡◌}
use lib.ListN.{get_or}
use Rattle.lent.specs.Range.{range}
use Rattle.linkage.specs.Inner.{meet}
use Rattle.linkage.proofs.Packed.{Found}
use Rattle.linkage.proofs.Forms.{along}
use Rattle.linkage.proofs.scan_row.Given as goal

abbrev pub invariant-loop-j : goal.invariant-loop-j
invariant-loop-j l =
    (l.from ≤ l.j) × (l.j ≤ l.m) × (l.best ≡ range (meet (along l.row) l.ids l.slots (get_or l.slots l.i 0)) l.from l.j l.initial.best) × Found l.best

abbrev pub decreases-loop-j : goal.decreases-loop-j
decreases-loop-j l = l.m - l.j

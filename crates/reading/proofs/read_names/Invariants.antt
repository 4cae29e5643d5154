-- What the loops of `reading::read_names` keep true, and what falls. Assumes nothing.
use Prim.Native.Nat.{suc, ◌-◌}
use lib.ListN.{length}
use Rattle.reading.proofs.Walk.{Naming}
use Rattle.reading.proofs.read_names.Given as goal

abbrev pub invariant-loop-at : goal.invariant-loop-at
invariant-loop-at l = Naming l.line l.from l.initial.starts l.i l.at l.starts

abbrev pub decreases-loop-at : goal.decreases-loop-at
decreases-loop-at l = suc (length l.line) - l.at

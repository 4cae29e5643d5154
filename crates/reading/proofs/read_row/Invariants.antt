-- What the loops of `reading::read_row` keep true, and what falls. Assumes nothing.
use Prim.Native.Nat.{suc, ◌-◌}
use lib.ListN.{length}
use Rattle.reading.proofs.Walk.{Rowing}
use Rattle.reading.proofs.read_row.Given as goal

abbrev pub invariant-loop-at : goal.invariant-loop-at
invariant-loop-at l = Rowing l.line l.initial.row l.j l.at l.row

abbrev pub decreases-loop-at : goal.decreases-loop-at
decreases-loop-at l = suc (length l.line) - l.at

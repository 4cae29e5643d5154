-- What the loop of `ceilings::cap` keeps true. Assumes nothing.
use mathlib.Core.Path.{◌≡◌}
use lib.ListN.{length}
use Rattle.lent.specs.Grid.{tab, over}
use Rattle.ceilings.specs.Ceilings.{gap_at, cut_total, left_for, capped_at}
use Rattle.ceilings.proofs.cap.Given as goal

abbrev pub invariant-loop-i : goal.invariant-loop-i
invariant-loop-i l = (length l.parts ≡ length l.initial.parts) × (l.left ≡ left_for (gap_at l.initial.parts l.ceilings) (cut_total l.initial.parts l.ceilings) l.i) × (l.parts ≡ over (tab l.i (capped_at l.initial.parts l.ceilings)) l.initial.parts)

-- What the loop of `fractions::measure` keeps true. Assumes nothing.
use mathlib.Core.Path.{◌≡◌}
use lib.ListN.{length}
use Rattle.lent.specs.Grid.{tab, over}
use Rattle.fractions.specs.Fractions.{whole_at}
use Rattle.fractions.specs.Inner.{Keyed}
use Rattle.fractions.proofs.measure.Given as goal

abbrev pub invariant-loop-i : goal.invariant-loop-i
invariant-loop-i l =
    (length l.wholes ≡ length l.initial.wholes) × (l.wholes ≡ over (tab l.i (whole_at l.weights)) l.initial.wholes) × Keyed l.weights l.i l.left

-- What the loops of `resample::scan` keep true. Assumes nothing.
use Prim.Native.Nat.{◌+◌, ◌*◌}
use mathlib.Core.Path.{◌≡◌}
use mathlib.Core.Bool.{false}
use Rattle.lent.specs.Grid.{grid, over}
use Rattle.lent.specs.Inner.{part}
use Rattle.resample.specs.Resample.{return_cell, zero_met}
use Rattle.resample.proofs.scan.Given as goal

abbrev pub invariant-loop-c : goal.invariant-loop-c
invariant-loop-c l =
    (l.met ≡ l.initial.met) × (zero_met l.prices (l.r * l.columns + l.c) ≡ false) × (l.out ≡ over (part l.r l.c l.columns (return_cell l.prices l.columns)) l.initial.out)

abbrev pub invariant-scan : goal.invariant-scan
invariant-scan l =
    (l.met ≡ false) × (zero_met l.prices (l.r * l.columns) ≡ false) × (l.out ≡ over (grid l.r l.columns (return_cell l.prices l.columns)) l.initial.out)

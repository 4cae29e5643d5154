-- What the loops of `resample::sample_row` keep true. Assumes nothing.
use mathlib.Core.Path.{◌≡◌}
use Rattle.lent.specs.Grid.{over}
use Rattle.lent.specs.Inner.{part}
use Rattle.resample.specs.Resample.{sampled_cell}
use Rattle.resample.proofs.sample_row.Given as goal

abbrev pub invariant-loop-c : goal.invariant-loop-c
invariant-loop-c l = l.out ≡ over (part l.r l.c l.columns (sampled_cell l.prices l.rows l.columns l.step)) l.initial.out

-- What the loops of `resample::sample` keep true. Assumes nothing.
use mathlib.Core.Path.{◌≡◌}
use Rattle.lent.specs.Grid.{grid, over}
use Rattle.resample.specs.Resample.{sampled_cell}
use Rattle.resample.proofs.sample.Given as goal

abbrev pub invariant-loop-r : goal.invariant-loop-r
invariant-loop-r l = l.out ≡ over (grid l.r l.columns (sampled_cell l.prices l.rows l.columns l.step)) l.initial.out

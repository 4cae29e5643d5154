-- What the loops of `stats::any_low` keep true. Assumes nothing.
use mathlib.Core.Path.{◌≡◌}
use mathlib.Core.Bool.{false}
use lib.Ieee.{le}
use Rattle.arithmetic.specs.Constants.{pz}
use Rattle.lent.specs.Grid.{cell, any_to}
use Rattle.stats.proofs.any_low.Given as goal

abbrev pub invariant-loop-i : goal.invariant-loop-i
invariant-loop-i l = any_to l.i (λ k. le (cell l.cov l.n k k) pz) ≡ false

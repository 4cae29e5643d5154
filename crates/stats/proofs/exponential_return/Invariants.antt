-- What the loops of `stats::exponential_return` keep true. Assumes nothing.
use Prim.Native.Nat.{◌-◌}
use mathlib.Core.Path.{◌≡◌}
use lib.Ieee.{binary64, mul}
use Rattle.lent.specs.Grid.{cell, sum_to}
use Rattle.stats.specs.Expected.{weight_at}
use Rattle.stats.proofs.exponential_return.Given as goal

abbrev pub invariant-loop-k : goal.invariant-loop-k
invariant-loop-k l =
    (l.weight ≡ weight_at l.k) × (l.num ≡ sum_to l.k (λ i. mul binary64 (weight_at i) (cell l.xs l.w (l.rows - 1 - i) l.c))) × (l.denom ≡ sum_to l.k weight_at)

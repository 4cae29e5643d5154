-- What the loops of `stats::roots` keep true. Assumes nothing.
use mathlib.Core.Path.{◌≡◌}
use lib.ListN.{length}
use Rattle.arithmetic.specs.Root.{root}
use Rattle.lent.specs.Grid.{cell}
use Rattle.stats.specs.Inner.{Kept}
use Rattle.stats.proofs.roots.Given as goal

abbrev pub invariant-loop-i : goal.invariant-loop-i
invariant-loop-i l = (length l.std ≡ 64) × Kept l.std l.i (λ k. root (cell l.cov l.n k k))

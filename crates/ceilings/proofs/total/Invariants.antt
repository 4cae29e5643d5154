-- What the loop of `ceilings::total` keeps true. Assumes nothing.
use mathlib.Core.Path.{◌≡◌}
use Rattle.ceilings.proofs.Totals.{kept_to}
use Rattle.ceilings.proofs.total.Given as goal

abbrev pub invariant-loop-x : goal.invariant-loop-x
invariant-loop-x l = l.sum ≡ kept_to l.list l.x-index

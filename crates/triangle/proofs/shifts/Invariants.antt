-- What the loop of `triangle::shifts` keeps true. Assumes nothing.
use mathlib.Core.Path.{◌≡◌}
use Rattle.lent.specs.Range.{range}
use Rattle.triangle.specs.Triangle.{shifted}
use Rattle.triangle.proofs.shifts.Given as goal

abbrev pub invariant-loop-r : goal.invariant-loop-r
invariant-loop-r l = l.out ≡ range (shifted l.form l.n) 0 l.r l.initial.out

-- What the loop of `triangle::above` keeps true. Assumes nothing.
use mathlib.Core.Path.{◌≡◌}
use mathlib.Core.Bool.{true}
use Rattle.lent.specs.Range.{range}
use Rattle.triangle.specs.Triangle.{mirror_row, upper_row}
use Rattle.triangle.proofs.above.Given as goal

abbrev pub invariant-loop-r : goal.invariant-loop-r
invariant-loop-r l = (l.same ≡ range (mirror_row l.n l.xs) 0 l.r true) × (l.d ≡ range (upper_row l.n l.xs) 0 l.r l.initial.d)

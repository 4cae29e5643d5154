-- What the loop of `triangle::fill_row` keeps true. Assumes nothing.
use Prim.Native.Nat.{◌+◌}
use mathlib.Core.Path.{◌≡◌}
use mathlib.Core.Bool.{◌&&◌}
use lib.ListN.{set}
use Rattle.lent.specs.Grid.{cell}
use Rattle.lent.specs.Range.{range}
use Rattle.triangle.specs.declared.Form.TheVariants.{Triangle}
use Rattle.triangle.specs.Triangle.{place_of, is_mirror}
use Rattle.triangle.proofs.fill_row.Given as goal

abbrev pub invariant-loop-c : goal.invariant-loop-c
invariant-loop-c l =
    (l.same ≡ range (λ i b. b && is_mirror l.xs l.n l.r i) (l.r + 1) l.c l.before)
    × (l.d ≡ range (λ i t. set t (place_of Triangle l.n l.r i) (cell l.xs l.n l.r i)) (l.r + 1) l.c l.initial.d)

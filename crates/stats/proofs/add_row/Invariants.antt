-- What the loops of `stats::add_row` keep true. Assumes nothing.
use Prim.Native.Nat.{◌+◌}
use Rattle.lent.specs.Inner.{Held}
use Rattle.stats.specs.Inner.{products_of}
use Rattle.stats.proofs.add_row.Given as goal

abbrev pub invariant-loop-j : goal.invariant-loop-j
invariant-loop-j l =
    Held l.sums l.i l.j (products_of l.xs l.w l.m l.i (l.r + 1)) × Held l.sums l.j l.w (products_of l.xs l.w l.m l.i l.r)

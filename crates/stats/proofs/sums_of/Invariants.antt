-- What the loops of `stats::sums_of` keep true. Assumes nothing.
use Rattle.lent.specs.Inner.{Held}
use Rattle.stats.specs.Inner.{products_of}
use Rattle.stats.proofs.sums_of.Given as goal

abbrev pub invariant-loop-r : goal.invariant-loop-r
invariant-loop-r l = Held l.sums l.i l.w (products_of l.xs l.w l.m l.i l.r)

-- What the loops of `ordering::insert_each` keep true. Assumes nothing.
use Rattle.std.proofs.Common.{◌≡◌, take, drop}
use Rattle.ordering.specs.Order.{insert_all, sorted}
use Rattle.ordering.proofs.insert_each.Given as goal

abbrev pub invariant-loop-i : goal.invariant-loop-i
invariant-loop-i l = insert_all (take l.i l.xs) (drop l.i l.xs) ≡ sorted l.initial.xs

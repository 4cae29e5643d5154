-- What the loops of `ordering::pass` keep true. Assumes nothing.
use Rattle.std.proofs.Common.{◌≡◌, ◌++◌, take, drop}
use Rattle.ordering.specs.Order.{insert}
use Rattle.ordering.proofs.pass.Given as goal

abbrev pub invariant-loop-y : goal.invariant-loop-y
invariant-loop-y l = take l.y-index l.xs ++ insert l.hold (drop l.y-index l.xs) ≡ insert l.x l.initial.xs

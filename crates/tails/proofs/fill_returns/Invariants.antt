-- What the loops of `tails::fill_returns` keep true. Assumes nothing.
use Rattle.std.proofs.Common.{◌≡◌}
use Rattle.lent.specs.Grid.{tab, over}
use Rattle.tails.specs.Tail.{row_return}
use Rattle.tails.proofs.fill_returns.Given as goal

abbrev pub invariant-loop-r : goal.invariant-loop-r
invariant-loop-r l = l.out ≡ over (tab l.r (row_return l.returns l.n l.assets l.w)) l.initial.out

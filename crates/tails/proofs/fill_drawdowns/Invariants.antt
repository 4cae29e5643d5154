-- What the loops of `tails::fill_drawdowns` keep true. Assumes nothing.
use Rattle.std.proofs.Common.{◌≡◌}
use Rattle.lent.specs.Grid.{tab, over}
use Rattle.tails.specs.Tail.{row_return, wealth, peak, drawdown}
use Rattle.tails.proofs.fill_drawdowns.Given as goal

abbrev pub invariant-loop-r : goal.invariant-loop-r
invariant-loop-r l = record {
  filled : l.out ≡ over (tab l.r (drawdown (row_return l.returns l.n l.assets l.w))) l.initial.out;
  worth : l.v ≡ wealth (row_return l.returns l.n l.assets l.w) l.r;
  top : l.p ≡ peak (row_return l.returns l.n l.assets l.w) l.r;
}

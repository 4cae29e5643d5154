-- What the loops of `tails::tail_above` keep true. Assumes nothing.
use Rattle.std.proofs.Common.{◌≡◌, ◌+◌}
use lib.Ieee.{le}
use Rattle.tails.specs.Tail.{row_return, wealth, peak, drawdown}
use Rattle.tails.proofs.Laws.{Tailed}
use Rattle.tails.proofs.tail_above.Given as goal

abbrev pub invariant-loop-r : goal.invariant-loop-r
invariant-loop-r l = record {
  tail : Tailed (λ x. le l.limit x) (drawdown (row_return l.returns l.n l.assets l.w)) l.sum l.count (l.r + 1);
  worth : l.v ≡ wealth (row_return l.returns l.n l.assets l.w) l.r;
  top : l.p ≡ peak (row_return l.returns l.n l.assets l.w) l.r;
}

-- What the loops of `tails::tail_below` keep true. Assumes nothing.
use lib.Ieee.{le}
use Rattle.tails.specs.Tail.{row_return}
use Rattle.tails.proofs.Laws.{Tailed}
use Rattle.tails.proofs.tail_below.Given as goal

abbrev pub invariant-loop-r : goal.invariant-loop-r
invariant-loop-r l = Tailed (λ x. le x l.limit) (row_return l.returns l.n l.assets l.w) l.sum l.count l.r

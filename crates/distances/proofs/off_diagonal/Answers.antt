-- `distances::off_diagonal` meets its contract. Assumes nothing.
use borrow.Author.Tests.{eq-eqb, ne_eqb}
use Rattle.lent.proofs.Fill.{filling}
use Rattle.distances.specs.Distances.{off_diagonal}
use Rattle.distances.proofs.off_diagonal.Goals as goal

pub at-x-requires : goal.at-x-requires
at-x-requires c = search filling

pub returns-then-k-i : goal.returns-then-k-i
unfolding off_diagonal
returns-then-k-i c = rw (eq-eqb _ _ c.if-k-i.true)

pub returns-else-k-i : goal.returns-else-k-i
unfolding off_diagonal
returns-else-k-i c = rw (ne_eqb _ _ c.if-k-i.false) c.at-x.ensures

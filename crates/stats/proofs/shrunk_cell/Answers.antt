-- `stats::shrunk_cell` meets its contract. Assumes nothing.
use borrow.Author.Tests.{eq-eqb, ne_eqb}
use Rattle.lent.proofs.Fill.{filling}
use Rattle.stats.specs.Covariance.{shrunk_cell}
use Rattle.stats.proofs.shrunk_cell.Goals as goal

pub at-x-requires : goal.at-x-requires
at-x-requires c = search filling

pub returns-then-i-j : goal.returns-then-i-j
unfolding shrunk_cell
returns-then-i-j c = rw (eq-eqb _ _ c.if-i-j.true) c.at-x.ensures

pub returns : goal.returns
unfolding shrunk_cell
returns c = rw (ne_eqb _ _ c.if-i-j.false, c.at-x.ensures)

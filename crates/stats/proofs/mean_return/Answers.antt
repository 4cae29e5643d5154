-- `stats::mean_return` meets its contract. Assumes nothing.
use borrow.Author.Tests.{eq-eqb, ne_eqb}
use Rattle.stats.specs.Expected.{mean_return}
use Rattle.stats.proofs.mean_return.Goals as goal

pub returns-then-rows-eq0 : goal.returns-then-rows-eq0
unfolding mean_return
returns-then-rows-eq0 c = rw (eq-eqb _ _ c.if-rows-eq0.true)

pub returns : goal.returns
unfolding mean_return
returns c = rw (ne_eqb _ _ c.if-rows-eq0.false, c.mean.ensures)

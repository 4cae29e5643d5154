-- `stats::exponential_return` meets its contract. Both sums so far are those of the k newest rows. Assumes nothing.
use mathlib.Core.Path.{refl}
use native.Mathlib.Omega.{arith}
use borrow.Author.Tests.{eq-eqb, ne_eqb}
use Rattle.lent.proofs.Sums.{sum_start, sum_step, sum_end}
use Rattle.stats.specs.Expected.{weight_at, exponential_return}
use Rattle.stats.proofs.Laws.{weight_step}
use Rattle.stats.proofs.exponential_return.Goals as goal

pub returns-then-rows-eq0 : goal.returns-then-rows-eq0
unfolding exponential_return
returns-then-rows-eq0 c = rw (eq-eqb _ _ c.if-rows-eq0.true)

pub loop-k-init : goal.loop-k-init
unfolding weight_at
loop-k-init c = (refl, sum_start _, sum_start _)

pub loop-k-preserved : goal.loop-k-preserved
loop-k-preserved c =
    (weight_step _ _ c.loop-k.invariant.0, sum_step _ _ _ _ c.loop-k.invariant.1 (rw (c.loop-k.invariant.0, c.at.ensures)), sum_step _ _ _ _ c.loop-k.invariant.2 c.loop-k.invariant.0)

pub returns : goal.returns
unfolding exponential_return
returns c =
    rw (ne_eqb _ _ c.if-rows-eq0.false, sum_end _ _ _ c.args.rows c.loop-k.invariant.1 (omega arith) (omega arith), sum_end _ _ _ c.args.rows c.loop-k.invariant.2 (omega arith) (omega arith))

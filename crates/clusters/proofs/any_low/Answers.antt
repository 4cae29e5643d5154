-- `clusters::any_low` meets its contract. Assumes nothing.
use Rattle.std.proofs.Common.{sym, arith}
use lib.Ieee.{le}
use Rattle.arithmetic.specs.Constants.{pz}
use Rattle.lent.proofs.Sums.{any_none, any_more, any_end, any_hit}
use Rattle.clusters.specs.Clusters.{nth, variance_at, any_listed_low}
use Rattle.clusters.proofs.any_low.Goals as goal

pub loop-a-init : goal.loop-a-init
loop-a-init c = any_none _

pub returns-then-own_variance : goal.returns-then-own_variance
unfolding any_listed_low
returns-then-own_variance c =
    sym (any_hit (λ i. le (variance_at c.args.cov.now c.args.n (nth c.args.assets.now i)) pz) _ c.loop-a.a-index (omega arith) (rw (← c.own_variance.ensures) c.if-own_variance.true))

pub loop-a-preserved : goal.loop-a-preserved
loop-a-preserved c = any_more _ _ c.loop-a.invariant (rw (← c.own_variance.ensures) c.if-own_variance.false)

pub returns : goal.returns
unfolding any_listed_low
returns c = sym (any_end _ _ _ c.loop-a.invariant (omega arith) (omega arith))

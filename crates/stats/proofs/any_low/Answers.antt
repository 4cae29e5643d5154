-- `stats::any_low` meets its contract. No variance passed is low. Assumes nothing.
use mathlib.Core.Path.{sym}
use native.Mathlib.Omega.{arith}
use lib.Ieee.{le}
use Rattle.arithmetic.specs.Constants.{pz}
use Rattle.lent.specs.Grid.{cell}
use Rattle.lent.proofs.Sums.{any_none, any_more, any_hit, any_end}
use Rattle.stats.specs.Covariance.{any_low}
use Rattle.stats.proofs.any_low.Goals as goal

pub loop-i-init : goal.loop-i-init
loop-i-init c = any_none _

pub returns-then-at : goal.returns-then-at
unfolding any_low
returns-then-at c =
    sym (any_hit (λ k. le (cell c.args.cov.now c.args.n k k) pz) c.args.n c.loop-i.i (omega arith) (rw (← c.at.ensures) c.if-at.true))

pub loop-i-preserved : goal.loop-i-preserved
loop-i-preserved c = any_more (λ k. le (cell c.args.cov.now c.args.n k k) pz) _ c.loop-i.invariant (rw (← c.at.ensures) c.if-at.false)

pub returns : goal.returns
unfolding any_low
returns c = sym (any_end _ _ _ c.loop-i.invariant (omega arith) (omega arith))

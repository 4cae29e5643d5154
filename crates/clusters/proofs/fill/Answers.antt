-- `clusters::fill` meets its contract. Assumes nothing.
use Rattle.std.proofs.Common.{refl, ◌∙◌, arith}
use Rattle.lent.proofs.Fill.{tab_start, tab_step, tab_end}
use Rattle.clusters.specs.Clusters.{recip, shares}
use Rattle.clusters.proofs.fill.Goals as goal

pub loop-k-init : goal.loop-k-init
loop-k-init c = tab_start _ _

pub loop-k-preserved : goal.loop-k-preserved
unfolding recip
loop-k-preserved c =
    tab_step _ _ _ _ _ _ refl c.loop-k.invariant (c.settled.ensures ∙ rw c.own_variance.ensures) (omega arith)

pub returns : goal.returns
unfolding shares
returns c = rw (← c.recip_sum-s.ensures) (tab_end _ _ _ _ _ c.loop-k.invariant (omega arith) (omega arith))

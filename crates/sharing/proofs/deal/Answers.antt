-- `sharing::deal` meets its contract. Assumes nothing.
use Rattle.sharing.proofs.Laws.{deal_start, deal_step}
use Rattle.sharing.proofs.deal.Goals as goal

pub loop-i-init : goal.loop-i-init
loop-i-init c = deal_start _ _ _ _

pub loop-i-preserved : goal.loop-i-preserved
loop-i-preserved c = deal_step _ _ _ _ _ _ _ c.give.ensures c.loop-i.invariant

-- `stats::sums_of` meets its contract. The sums so far are those of the first r rows. Assumes nothing.
use Rattle.stats.proofs.Laws.{products_none}
use Rattle.stats.proofs.sums_of.Goals as goal

pub loop-r-init : goal.loop-r-init
loop-r-init c = products_none _ _ _ _ c.requires.whole.wide

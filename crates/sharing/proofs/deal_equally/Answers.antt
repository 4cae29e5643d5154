-- `sharing::deal_equally` meets its contract. Assumes nothing.
use Rattle.sharing.specs.Allot.{equal_of}
use Rattle.sharing.proofs.deal_equally.Goals as goal

pub returns : goal.returns
unfolding equal_of
returns c = rw (← c.one_over.ensures) c.spread.ensures

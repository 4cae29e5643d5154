-- `lent::lacks_cells` meets its contract. Assumes nothing.
use Rattle.lent.proofs.Sizes.{no_cells, cells_lack}
use Rattle.lent.proofs.lacks_cells.Goals as goal

pub returns-then-n-eq0 : goal.returns-then-n-eq0
returns-then-n-eq0 c = no_cells _ _ c.if-n-eq0.true

pub returns : goal.returns
returns c = cells_lack _ _ c.if-n-eq0.false
